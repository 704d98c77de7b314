-- The end of each command, by its exit status.
--
-- `reads` gives the rest of a reader, and `writes` and `tells` the bytes sent to a writer, if known.
-- `Runs` relates a fact to the histories before and after the command. `NoDesk` is the reason for
-- status 3: nothing was answered.
use Rattle.std.specs.Prelude.{◌≡◌, ◌≢◌, ◌⊎◌, ◌<◌, ℕ, List, Option, true, false}
use Rattle.std.specs.Io.KnownBytes.{Appends}
use Rattle.desk_types.specs.declared.wire.Wire.{Wire}
use Rattle.desk_types.specs.History.{History}
use Rattle.desk_types.specs.Wire.{inner_of, failures_of}
use Rattle.desk_answers.specs.Ledger.{Ledger}
use Rattle.desk_answers.specs.declared.serving.Served.{Served}
use Rattle.desk_answers.specs.declared.serving.ServeFault.{ServeFault}
use Rattle.desk_answers.specs.declared.serving.ServeFault.TheVariants.{Read}
use Rattle.desk_answers.specs.Counts.{none_served}
use Rattle.desk_answers.specs.Sent.{SendsFront}
use Rattle.desk_answers.specs.Shown.{IsShown}
use Rattle.desk_feed.specs.Stream.{LeavesNone}
use Rattle.imports.specs.declared.import.Import.{Import}
use Rattle.http_stream.specs.Answers.{Told, code_of}
use Rattle.desk_commands.specs.Clients.{Exchange, Serving, ends_of}
use Rattle.desk_commands.specs.Connections.{TellsConnections}
use Rattle.desk_commands.specs.OpenRuns.{AnswersAll, AnswersImport, AnswersUpTo, CutsImport, StaysSame}
use Rattle.desk_commands.specs.Told.{fault_line, report_output, TellsEnd, TellsLine, TellsUnwritten}
use Rattle.desk_commands.specs.Wires.{FeedsWell, GoesWell}

-- The lines of the input.
pub record FeedEnds {R W E : Type 0}
    (reads : R → Option (List ℕ)) (writes : W → Option (List ℕ)) (tells : E → Option (List ℕ))
    (input input' : Wire R) (output output' : Wire W) (errors errors' : Wire E)
    (Runs : (Ledger → History → Type 0) → Type 0) (NoDesk : Type 0) (exit : ℕ) : Type 0 where
  pub status : (exit ≡ 0) ⊎ (exit ≡ 1) ⊎ (exit ≡ 3) ⊎ (exit ≡ 4)
  -- All were answered, and no answer counts as refused.
  pub done : exit ≡ 0
      → (served : Served) × (served.refused ≡ 0)
      × Runs (AnswersAll reads writes input output output' served)
  -- All were answered, and some answer counts as refused.
  pub refused : exit ≡ 1
      → (served : Served) × (0 < served.refused)
      × Runs (AnswersAll reads writes input output output' served)
  pub no_desk : exit ≡ 3 → NoDesk
  pub untouched : exit ≡ 3 → (input' ≡ input) × (output' ≡ output)
  -- The first lines were answered. Then a read or a write failed, or there were too many reads.
  pub failed : exit ≡ 4
      → (fault : ServeFault) × IsShown fault input input' output output'
      × LeavesNone (reads (inner_of input)) (reads (inner_of input')) fault
      × TellsLine tells errors errors' (fault_line fault)
      × Runs (AnswersUpTo reads writes input output output' fault)
  pub well : (exit ≡ 0) ⊎ (exit ≡ 1)
      → FeedsWell reads input input' output output' errors errors'

-- An import of a file with these contents, if known.
pub record ImportEnds {W E : Type 0} (writes : W → Option (List ℕ)) (tells : E → Option (List ℕ))
    (output output' : Wire W) (errors errors' : Wire E)
    (import : Import) (file : Option (List ℕ)) (MayFail : Type 0)
    (Runs : (Ledger → History → Type 0) → Type 0) (NoDesk : Type 0) (exit : ℕ) : Type 0 where
  pub status : (exit ≡ 0) ⊎ (exit ≡ 1) ⊎ (exit ≡ 3) ⊎ (exit ≡ 4)
  pub done : exit ≡ 0 → Runs (AnswersImport writes output output' false import file)
  pub refused : exit ≡ 1 → Runs (AnswersImport writes output output' true import file)
  pub no_desk : exit ≡ 3 → NoDesk
  pub untouched : exit ≡ 3 → output' ≡ output
  -- The output failed, or the file could not be read.
  pub failed : exit ≡ 4
      → (TellsUnwritten tells output output' errors errors'
      × Runs (CutsImport writes output output' import file))
      ⊎ (MayFail × (output' ≡ output)
      × TellsLine tells errors errors' (fault_line (Read none_served))
      × Runs StaysSame)
  pub well : (exit ≡ 0) ⊎ (exit ≡ 1) → GoesWell output output' errors errors'

-- Connections up to this number, which `Answers` says were answered; fewer only with status 4. `Serves` says which
-- connections the port had, and how it had no more.
pub record ServingEnds {W E : Type 0} (writes : W → Option (List ℕ)) (tells : E → Option (List ℕ))
    (output output' : Wire W) (errors errors' : Wire E)
    (connections : ℕ) (Serves : Serving → Type 0) (Answers : List Exchange → Type 0)
    (NoDesk : Type 0) (exit : ℕ) : Type 0 where
  pub status : (exit ≡ 0) ⊎ (exit ≡ 1) ⊎ (exit ≡ 3) ⊎ (exit ≡ 4)
  pub served : (exit ≡ 0) ⊎ (exit ≡ 1) ⊎ (exit ≡ 4)
      → (serving : Serving)
      × TellsConnections connections (ends_of serving.exchanges) serving.stop exit
      (writes (inner_of output)) (writes (inner_of output')) (failures_of output)
      (failures_of output')
      × Serves serving × Answers serving.exchanges
  pub no_desk : exit ≡ 3 → NoDesk
  pub untouched : exit ≡ 3 → output' ≡ output
  pub failed : exit ≡ 4 → TellsEnd tells output output' errors errors'
  pub well : (exit ≡ 0) ⊎ (exit ≡ 1) → GoesWell output output' errors errors'

-- A report. `Answers` says that this is the answer to its target.
pub record ReportEnds {W E : Type 0} (writes : W → Option (List ℕ)) (tells : E → Option (List ℕ))
    (output output' : Wire W) (errors errors' : Wire E)
    (Answers : Told → Type 0) (NoDesk : Type 0) (exit : ℕ) : Type 0 where
  pub status : (exit ≡ 0) ⊎ (exit ≡ 1) ⊎ (exit ≡ 3) ⊎ (exit ≡ 4)
  pub done : exit ≡ 0
      → (answer : Told) × (code_of answer.status ≡ 200)
      × Appends (writes (inner_of output)) (writes (inner_of output')) (report_output answer)
      × Answers answer
  pub refused : exit ≡ 1
      → (answer : Told) × (code_of answer.status ≢ 200)
      × Appends (writes (inner_of output)) (writes (inner_of output')) (report_output answer)
      × Answers answer
  pub no_desk : exit ≡ 3 → NoDesk
  pub untouched : exit ≡ 3 → output' ≡ output
  pub failed : exit ≡ 4
      → TellsUnwritten tells output output' errors errors'
      × (answer : Told)
      × SendsFront (writes (inner_of output)) (writes (inner_of output')) (report_output answer)
      × Answers answer
  pub well : (exit ≡ 0) ⊎ (exit ≡ 1) → GoesWell output output' errors errors'

-- A text on the output.
pub record PrintEnds {W E : Type 0} (writes : W → Option (List ℕ)) (tells : E → Option (List ℕ))
    (output output' : Wire W) (errors errors' : Wire E)
    (text : List ℕ) (NoDesk : Type 0) (exit : ℕ) : Type 0 where
  pub status : (exit ≡ 0) ⊎ (exit ≡ 3) ⊎ (exit ≡ 4)
  pub done : exit ≡ 0 → Appends (writes (inner_of output)) (writes (inner_of output')) text
  pub no_desk : exit ≡ 3 → NoDesk
  pub untouched : exit ≡ 3 → output' ≡ output
  pub failed : exit ≡ 4 → TellsUnwritten tells output output' errors errors'
  pub front : exit ≡ 4 → SendsFront (writes (inner_of output)) (writes (inner_of output')) text
  pub well : exit ≡ 0 → GoesWell output output' errors errors'

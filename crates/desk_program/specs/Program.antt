-- The effect of a run of the program.
use Rattle.std.specs.Prelude.{◌≡◌, ◌≢◌, ◌<◌, ◌≤◌, ◌+◌, ◌^◌, ℕ, ◌⊎◌, ⊤, List, Option, Some, None, true, false}
use Rattle.std.specs.Io.KnownBytes.{Appends, IsAtEnd}
use Rattle.sqlite_disk.specs.declared.Disk as disk
use Rattle.desk_types.specs.declared.wire.Wire.{Wire}
use Rattle.desk_types.specs.History.{History}
use Rattle.desk_types.specs.Wire.{inner_of, reads_of, failures_of}
use Rattle.desk_types.specs.declared.limits.TheConstants.{MOST_READS}
use Rattle.desk_answers.specs.Ledger.{Ledger}
use Rattle.line_schema.specs.declared.fault.OpenFault.{OpenFault}
use Rattle.desk_feed.specs.Stream.{LeavesNone}
use Rattle.desk_feed.specs.declared.options.BadOption.{BadOption}
use Rattle.imports.specs.declared.import.Import.{Import}
use Rattle.desk_words.specs.CommandLine.{AsksForAudit, AsksForFeed, AsksForImport, AsksForMigration, AsksForNothing, AsksForReport, AsksForServing, AsksForText, HasBadOption}
use Rattle.http_stream.specs.Answers.{Told, code_of}
use Rattle.gateway_http.specs.Reports.{report_of}
use Rattle.desk_answers.specs.declared.serving.Served.{Served}
use Rattle.desk_answers.specs.declared.serving.ServeFault.{ServeFault}
use Rattle.desk_answers.specs.declared.serving.ServeFault.TheVariants.{Read as ReadFault}
use Rattle.desk_answers.specs.Counts.{none_served}
use Rattle.desk_answers.specs.Sent.{SendsFront}
use Rattle.desk_answers.specs.Shown.{FailsNever, IsShown}
use Rattle.desk_commands.specs.Clients.{Serving, ends_of}
use Rattle.desk_commands.specs.Connections.{TellsConnections}
use Rattle.desk_commands.specs.OpenRuns.{AnswersAll, AnswersImport, AnswersUpTo, CutsImport, StaysSame, AnswersReport}
use Rattle.desk_commands.specs.Told.{fault_line, lawful_line, option_line, report_output, unavailable_line, version_line, TellsEnd, TellsLine}
use Rattle.desk_commands.specs.Told as told
use Rattle.desk_commands.specs.declared.left.ToClose.{ToClose}
use Rattle.desk_commands.specs.declared.left.ToClose.TheVariants as left
use Rattle.desk_commands.specs.Runs.{HasNoDesk, RunsInMemory, ServesEach}
use Rattle.desk_commands.specs.Closed.{Close, whole, failed}
use Rattle.desk_program.specs.Ways.{Ways}

-- The arguments ask to answer lines, and that was done: on a new desk in memory, or on that of a file.
abbrev pub RunsAsked : Ways → List (List ℕ) → (Ledger → History → Type 0) → Type 0
RunsAsked ways words Fact =
    ((greatest : ℕ) × AsksForFeed words None greatest × RunsInMemory greatest Fact)
    ⊎ ((file : List ℕ) × (greatest : ℕ) × AsksForFeed words (Some file) greatest
    × ways.Runs (Some greatest) Fact)

-- The arguments ask for an import, and it was answered in this way, on the desk of the file that they name.
abbrev pub RunsImport : Ways → List (List ℕ) → (Import → List ℕ → Ledger → History → Type 0)
    → Type 0
RunsImport ways words Fact =
    (file : List ℕ) × (import : Import) × (from : List ℕ) × AsksForImport words file import from
    × ways.Runs None (Fact import from)

-- The arguments ask to serve connections at a port. These were served there on the desk of the file that the arguments
-- name, with this exit status and a line for each on the output.
abbrev pub RunsServing : {W : Type 0} → Ways → List (List ℕ) → (ℕ → Serving → Type 0)
    → (W → Option (List ℕ)) → Wire W → Wire W → ℕ → Type 0
RunsServing ways words serves contents output output' status =
    (file : List ℕ) × (port : ℕ) × (connections : ℕ) × (greatest : ℕ)
    × AsksForServing words file port connections greatest
    × (serving : Serving)
    × TellsConnections connections (ends_of serving.exchanges) serving.stop status
    (contents (inner_of output)) (contents (inner_of output')) (failures_of output)
    (failures_of output')
    × serves port serving × ways.Runs (Some greatest) (ServesEach serving.exchanges)

-- The arguments ask for a report, and it was answered in this way by the history of the desk of the file that they
-- name.
abbrev pub RunsReport : Ways → List (List ℕ) → (Told → Type 0) → Type 0
RunsReport ways words Shown =
    (file : List ℕ) × (target : List ℕ) × AsksForReport words file target
    × (answer : Told) × Shown answer × ways.Runs None (AnswersReport report_of target answer)

-- The arguments ask for an import of a file that may fail to be read, and the history is unchanged.
abbrev pub ImportUnread : Ways → List (List ℕ) → (List ℕ → Type 0) → Type 0
ImportUnread ways words may_fail =
    (file : List ℕ) × (import : Import) × (from : List ℕ) × AsksForImport words file import from
    × may_fail from × ways.Runs None StaysSame

-- The arguments name a file whose desk is opened.
abbrev pub NamesDesk : List (List ℕ) → Type 0
NamesDesk words =
    (file : List ℕ)
    × (AsksForAudit words file ⊎ ((greatest : ℕ) × AsksForFeed words (Some file) greatest)
    ⊎ ((import : Import) × (from : List ℕ) × AsksForImport words file import from)
    ⊎ ((port : ℕ) × (connections : ℕ) × (greatest : ℕ)
    × AsksForServing words file port connections greatest)
    ⊎ ((target : List ℕ) × AsksForReport words file target))

-- The arguments name a file that is migrated.
abbrev pub NamesMigrated : List (List ℕ) → Type 0
NamesMigrated words = (file : List ℕ) × AsksForMigration words file

-- The arguments name a desk's file.
abbrev pub NamesFile : List (List ℕ) → Type 0
NamesFile words = NamesDesk words ⊎ NamesMigrated words

-- The open file is the one that the arguments name.
abbrev pub Names : {D : Type 0} {g : disk.Ghosts D} → List (List ℕ) → ToClose D g → Type 0
Names words left.Nothing = ⊤
Names words (left.Desk d) = NamesDesk words
Names words (left.Migrated conn) = NamesMigrated words
Names words (left.Refused r) = NamesFile words

-- The file that the arguments name was refused for this fault: by a run that may make a desk, by one that may not, or
-- by a migration.
abbrev pub RefusesNamed : Ways → List (List ℕ) → OpenFault → Type 0
RefusesNamed ways words fault =
    ((file : List ℕ) × (greatest : ℕ) × AsksForFeed words (Some file) greatest
    × ways.Refuses (Some greatest) fault)
    ⊎ ((file : List ℕ) × (port : ℕ) × (connections : ℕ) × (greatest : ℕ)
    × AsksForServing words file port connections greatest × ways.Refuses (Some greatest) fault)
    ⊎ ((file : List ℕ) × (import : Import) × (from : List ℕ) × AsksForImport words file import from
    × ways.Refuses None fault)
    ⊎ ((file : List ℕ) × (target : List ℕ) × AsksForReport words file target
    × ways.Refuses None fault)
    ⊎ ((file : List ℕ) × AsksForAudit words file × ways.Refuses None fault)
    ⊎ ((file : List ℕ) × AsksForMigration words file × ways.RefusesToMigrate fault)

-- ---- the end of a run

-- The table of a run, with a paragraph for each exit status and a row for each command: its arguments, and its wires
-- before and after. `ways` is the effect on its files, by the open files or by those that it closed. `holds` gives the
-- contents of an import's file, and `may_fail` whether reading it may fail. `serves` gives the connections on a port.
-- `reads` is the rest of a reader and `writes` the bytes sent to a writer, as far as they are known.
module _ {R W E : Type 0} (ways : Ways) (holds : List ℕ → Option (List ℕ))
    (may_fail : List ℕ → Type 0) (serves : ℕ → Serving → Type 0) (reads : R → Option (List ℕ))
    (writes : W → Option (List ℕ)) (tells : E → Option (List ℕ))
    (words : List (List ℕ)) (input input' : Wire R) (output output' : Wire W)
    (errors errors' : Wire E) where
  -- This text was written, or only its first bytes were.
  abbrev pub Sent : List ℕ → Type 0
  Sent text = Appends (writes (inner_of output)) (writes (inner_of output')) text

  abbrev pub SentFront : List ℕ → Type 0
  SentFront text = SendsFront (writes (inner_of output)) (writes (inner_of output')) text

  -- This line was printed on standard error.
  abbrev pub ToldLine : List ℕ → Type 0
  ToldLine line = TellsLine tells errors errors' line

  -- Status 0: the command did everything that was asked, and nothing was refused.
  abbrev pub Done : Type 0
  Done =
      ((served : Served) × (served.refused ≡ 0)
      × RunsAsked ways words (AnswersAll reads writes input output output' served))
      ⊎ ((file : List ℕ) × AsksForAudit words file × (count : ℕ) × Sent (lawful_line count)
      × ways.Audits count)
      ⊎ ((file : List ℕ) × AsksForMigration words file × Sent version_line × ways.Migrates)
      ⊎ RunsImport ways words
      (λ import from. AnswersImport writes output output' false import (holds from))
      ⊎ (AsksForText words × (text : List ℕ) × Sent text)
      ⊎ RunsServing ways words serves writes output output' 0
      ⊎ RunsReport ways words
      (λ answer. (code_of answer.status ≡ 200) × Sent (report_output answer))

  -- Status 1: some line was refused; the import was; some connection was faulty; there is no such report.
  abbrev pub Refused : Type 0
  Refused =
      ((served : Served) × (0 < served.refused)
      × RunsAsked ways words (AnswersAll reads writes input output output' served))
      ⊎ RunsImport ways words
      (λ import from. AnswersImport writes output output' true import (holds from))
      ⊎ RunsServing ways words serves writes output output' 1
      ⊎ RunsReport ways words
      (λ answer. (code_of answer.status ≢ 200) × Sent (report_output answer))

  -- Status 2: the arguments have no meaning, or an option of an import can't be read. No file was opened, and nothing
  -- was read or sent.
  abbrev pub Bad : Type 0
  Bad = ways.OpensNone × ((input' ≡ input) × (output' ≡ output))
      × ((AsksForNothing words × (text : List ℕ) × told.Tells tells errors errors' text)
      ⊎ ((option : BadOption) × HasBadOption words option × ToldLine (option_line option)))

  -- Status 3: the file that the arguments name was refused, or memory was, and nothing was read or sent.
  abbrev pub NoDesk : Type 0
  NoDesk =
      ((input' ≡ input) × (output' ≡ output))
      × HasNoDesk (RefusesNamed ways words) (ways.OpensNone ⊎ ways.Runs None StaysSame) ToldLine

  -- Status 4: a read or a write failed, or the file of an import could not be read, or no further connection was
  -- served.
  abbrev pub Failed : Type 0
  Failed =
      ((fault : ServeFault) × IsShown fault input input' output output'
      × ToldLine (fault_line fault)
      × ((LeavesNone (reads (inner_of input)) (reads (inner_of input')) fault
      × RunsAsked ways words (AnswersUpTo reads writes input output output' fault))
      ⊎ ((file : List ℕ) × AsksForAudit words file × (count : ℕ) × SentFront (lawful_line count)
      × ways.Audits count)
      ⊎ ((file : List ℕ) × AsksForMigration words file × SentFront version_line × ways.Migrates)
      ⊎ RunsImport ways words (λ import from. CutsImport writes output output' import (holds from))
      ⊎ (AsksForText words × (text : List ℕ) × SentFront text)
      ⊎ RunsReport ways words (λ answer. SentFront (report_output answer))))
      ⊎ ((input' ≡ input) × (output' ≡ output) × ToldLine (fault_line (ReadFault none_served))
      × ImportUnread ways words may_fail)
      ⊎ ((input' ≡ input) × TellsEnd tells output output' errors errors'
      × RunsServing ways words serves writes output output' 4)

  -- The effect of a run, by its exit status. `Refusal` says why it ended with status 3.
  pub record RunsAs (Refusal : Type 0) (exit : ℕ) : Type 0 where
    pub status : exit ≤ 4
    pub done : exit ≡ 0 → Done
    pub refused : exit ≡ 1 → Refused
    pub bad : exit ≡ 2 → Bad
    pub no_desk : exit ≡ 3 → Refusal
    pub failed : exit ≡ 4 → Failed
    pub kept : (exit ≡ 0) ⊎ (exit ≡ 1) → FailsNever input input' output output'
    pub quiet : (exit ≡ 0) ⊎ (exit ≡ 1) → errors' ≡ errors

  -- The effect of a run that has not closed what it opened, if it opened anything.
  abbrev pub LeavesAs : ℕ → Type 0
  LeavesAs exit = RunsAs NoDesk exit

-- The files could not be closed, and the status is 3. Either there was no desk. Or a run with another status had opened
-- files, its effects remain, and Unavailable was printed after its own texts.
abbrev pub Unclosed : {R W E : Type 0} → Ways → (List ℕ → Option (List ℕ)) → (List ℕ → Type 0)
    → (ℕ → Serving → Type 0)
    → (R → Option (List ℕ)) → (W → Option (List ℕ)) → (E → Option (List ℕ)) → List (List ℕ)
    → Wire R → Wire R → Wire W → Wire W → Wire E → Wire E → Type 0
Unclosed {E = E} ways holds may_fail serves reads writes tells words
    input input' output output' errors errors' =
    NoDesk ways holds may_fail serves reads writes tells words
    input input' output output' errors errors'
    ⊎ ((exit : ℕ) × (exit ≢ 3) × (ways.OpensNone → ⊥) × (told : Wire E)
    × LeavesAs ways holds may_fail serves reads writes tells words
    input input' output output' errors told exit
    × TellsLine tells told errors' unavailable_line)

-- The effect of a run that closed its files: completely, or a close failed.
abbrev pub ClosesAs : {R W E : Type 0} → (Close → Ways) → (List ℕ → Option (List ℕ))
    → (List ℕ → Type 0) → (ℕ → Serving → Type 0)
    → (R → Option (List ℕ)) → (W → Option (List ℕ)) → (E → Option (List ℕ)) → List (List ℕ)
    → Wire R → Wire R → Wire W → Wire W → Wire E → Wire E → ℕ → Type 0
ClosesAs ways holds may_fail serves reads writes tells words
    input input' output output' errors errors' exit =
    RunsAs (ways whole) holds may_fail serves reads writes tells words
    input input' output output' errors errors'
    (NoDesk (ways whole) holds may_fail serves reads writes tells words
    input input' output output' errors errors'
    ⊎ Unclosed (ways failed) holds may_fail serves reads writes tells words
    input input' output output' errors errors') exit

-- ---- the input and the port

-- The arguments don't ask to answer lines.
abbrev pub AsksForNoFeed : List (List ℕ) → Type 0
AsksForNoFeed words = (file : Option (List ℕ)) (greatest : ℕ) → AsksForFeed words file greatest → ⊥

-- They don't ask to serve connections.
abbrev pub AsksForNoServing : List (List ℕ) → Type 0
AsksForNoServing words =
    (file : List ℕ) (port connections greatest : ℕ)
    → AsksForServing words file port connections greatest → ⊥

-- The input is read only to answer its lines, and with status 0 or 1 to its end.
pub record ReadsAsked {R : Type 0} (reads : R → Option (List ℕ)) (words : List (List ℕ))
    (input input' : Wire R) (exit : ℕ) : Type 0 where
  pub few : reads_of input' ≤ reads_of input + MOST_READS
  pub unread : AsksForNoFeed words → input' ≡ input
  pub end : (exit ≡ 0) ⊎ (exit ≡ 1) → (file : Option (List ℕ)) (greatest : ℕ)
      → AsksForFeed words file greatest → IsAtEnd (reads (inner_of input'))

-- The counts of the wires have room for a run, and for the line that a failed close prints.
pub record HaveRoom {R W E : Type 0} (input : Wire R) (output : Wire W)
    (errors : Wire E) : Type 0 where
  pub reads : reads_of input < 2 ^ 63
  pub read_failures : failures_of input < 2 ^ 63
  pub write_failures : failures_of output < 2 ^ 63
  pub error_failures : failures_of errors + 1 < 2 ^ 63

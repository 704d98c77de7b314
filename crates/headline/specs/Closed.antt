-- A run of the program that closed its files.
use Rattle.std.specs.Prelude.{ℕ, List, [], ◌∷◌, Option, Some, map}
use Rattle.sqlite_disk.specs.declared.Disk as disk
use Rattle.sqlite_disk.specs.declared.Files.{Files}
use Rattle.sqlite_disk.specs.declared.start.Start as start
use Rattle.sqlite_wal.specs.Files.{image_at}
use Rattle.sqlite_wal.specs.Reads.{AreClean}
use Rattle.sqlite_wal.specs.Recovery.{Image}
use Rattle.sqlite_store.specs.declared.store.FileStore.{FileStore}
use Rattle.sqlite.specs.State.{HasCleanDisk}
use Rattle.sqlite.specs.Files.{over_files}
use Rattle.desk_types.specs.History.{History}
use Rattle.desk_answers.specs.Ledger.{Ledger}
use Rattle.feeder_state.specs.declared.desk.StateDesk.{StateDesk}
use Rattle.feeder_state.specs.contracts.desk.StateDeskDesk.TheImpl.{ghosts as state}
use Rattle.line_schema.specs.declared.store.LineStore.{LineStore}
use Rattle.line_schema.specs.Stands.{state_of}
use Rattle.desk_file.specs.Files.{Closes, MayRead}
use Rattle.desk_commands.specs.declared.left.ToClose.TheVariants.{Desk}
use Rattle.desk_commands.specs.Closed.{RunsTo, whole}
use Rattle.desk_commands.specs.Runs.{RunsOn, ServesEach}
use Rattle.desk_commands.specs.Clients.{Ended, Exchange}
use Rattle.desk_commands.specs.OpenRuns.{AnswersReport, StaysSame}
use Rattle.imports.specs.declared.import.Import.{Import}
use Rattle.http_stream.specs.Answers.{Told}
use Rattle.gateway_http.specs.Reports.{report_of}
use Rattle.headline.specs.Calls.{Call, Feeds, ImportEnded, Imports}
use Rattle.headline.specs.Calls.Call.{asked, connected, fed, imported}
use Rattle.headline.specs.Runs.{IsRun, Run}
use Rattle.headline.specs.Runs.Ending.{closed}

-- The desk was closed, its disk never lied, and these are its files' contents then, or after a crash.
abbrev pub ClosesTo : {D : Type 0} {g : disk.Ghosts D} → LineStore (FileStore D g) StateDesk
    → Files D → Image → Type 0
ClosesTo {g = g} desk files image =
    Closes state.Stands desk files × HasCleanDisk (state_of over_files desk)
    × AreClean g files.log files.db × MayRead g files image

-- The disk never lied, and these are the closed files' contents then, or after a crash.
pub record ReadsClean {D : Type 0} (g : disk.Ghosts D) (files : Files D)
    (image : Image) : Type 0 where
  pub clean : AreClean g files.log files.db
  pub reads : MayRead g files image

-- A run that made these calls.
abbrev pub run_of : {T : Type 0} → start.Ghosts T → Option ℕ → List Call → Image → Run
run_of first make calls image =
    record { first = image_at first; make = make; calls = calls; ending = closed; last = image }

-- Connections, each with the bytes that its client sent and received.
abbrev pub connections_of : List Exchange → List Call
connections_of = map (λ e. connected e.sent e.unread e.before e.after e.ended)

-- A fact of this desk, which was closed to these files, gives a run with these calls.
abbrev pub GivesClosedRun : {T D : Type 0} {g : disk.Ghosts D} → start.Ghosts T
    → LineStore (FileStore D g) StateDesk → Files D → (Ledger → History → Type 0) → List Call
    → Type 0
GivesClosedRun first desk files Fact calls = (make : Option ℕ) (image : Image)
    → RunsOn first make (Desk desk) Fact → ClosesTo desk files image
    → IsRun report_of (run_of first make calls image)

-- The same of a fact of the closed files alone.
abbrev pub GivesWholeRun : {T D : Type 0} → start.Ghosts T → disk.Ghosts D → Files D
    → (Ledger → History → Type 0) → List Call → Type 0
GivesWholeRun first g files Fact calls = (make : Option ℕ) (image : Image)
    → RunsTo whole first g (Some files) make Fact → ReadsClean g files image
    → IsRun report_of (run_of first make calls image)

-- The answers of each command give its calls: lines, connections, a report, an import, or nothing.
pub record GivesCalls (Gives : (Ledger → History → Type 0) → List Call → Type 0) : Type 0 where
  pub feeds : (input out out' : Option (List ℕ)) (ended : Ended)
      → Gives (λ G H. Feeds G input out out' ended H) (fed input out out' ended ∷ [])
  pub serves : (exchanges : List Exchange) → Gives (ServesEach exchanges) (connections_of exchanges)
  pub reports : (target : List ℕ) (told : Told)
      → Gives (AnswersReport report_of target told) (asked target told ∷ [])
  pub imports : (import : Import) (bytes out out' : Option (List ℕ)) (ended : ImportEnded)
      → Gives (λ G H. Imports G import bytes out out' ended H)
      (imported import bytes out out' ended ∷ [])
  pub stays : Gives StaysSame []

-- A whole run of the program after others on the same two files.
use Rattle.std.specs.Prelude.{◌≡◌, ◌⊎◌, ℕ, List, [], ◌∷◌, Option, None, Some}
use Rattle.std.specs.Io.KnownBytes.{Appends}
use Rattle.sqlite_disk.specs.declared.Disk as disk
use Rattle.sqlite_disk.specs.declared.Files.{Files}
use Rattle.sqlite_disk.specs.declared.start.Start as start
use Rattle.sqlite_wal.specs.Files.{image_at}
use Rattle.sqlite_wal.specs.Recovery.{Image}
use Rattle.desk_types.specs.declared.wire.Wire.{Wire}
use Rattle.desk_types.specs.Wire.{inner_of}
use Rattle.desk_answers.specs.Counts.{none_served}
use Rattle.desk_answers.specs.Sent.{SendsFront}
use Rattle.desk_answers.specs.declared.serving.ServeFault.TheVariants.{Read}
use Rattle.imports.specs.declared.import.Import.{Import}
use Rattle.desk_words.specs.CommandLine.{AsksForAudit, AsksForFeed, AsksForImport, AsksForMigration, AsksForReport, AsksForServing, AsksForText}
use Rattle.desk_commands.specs.Clients.{Ended, Serving}
use Rattle.desk_commands.specs.Told.{TellsLine, fault_line, report_output}
use Rattle.http_stream.specs.Answers.{Told}
use Rattle.gateway_http.specs.Reports.{report_of}
use Rattle.headline.specs.Calls.{Call, ImportEnded}
use Rattle.headline.specs.Calls.Call.{asked, fed, imported}
use Rattle.headline.specs.Closed.{ReadsClean, connections_of, run_of}
use Rattle.headline.specs.Runs.{AreRuns, IsRun, Run, as_one, run_then}

-- The arguments ask for lines in memory, for a text or for a migration.
abbrev pub AsksForNoCalls : List (List ℕ) → Type 0
AsksForNoCalls words = ((greatest : ℕ) × AsksForFeed words None greatest) ⊎ AsksForText words
    ⊎ ((file : List ℕ) × AsksForMigration words file)

module _ {R W E : Type 0} (holds : List ℕ → Option (List ℕ)) (may_fail : List ℕ → Type 0)
    (serves : ℕ → Serving → Type 0) (reads : R → Option (List ℕ)) (writes : W → Option (List ℕ))
    (tells : E → Option (List ℕ)) (words : List (List ℕ)) (input input' : Wire R)
    (output output' : Wire W) (errors errors' : Wire E) (exit : ℕ) where
  -- The file of an import, which may fail to be read, was not read: the run told that, ended with status 4, and read
  -- and sent nothing.
  abbrev pub IsUnread : List ℕ → Type 0
  IsUnread from =
      may_fail from × (exit ≡ 4) × (input' ≡ input) × (output' ≡ output)
      × TellsLine tells errors errors' (fault_line (Read none_served))

  -- The calls of a run, by its arguments and its wires: lines, an import, connections or a report. An audit makes no
  -- call, and of imports only one whose file was not read.
  abbrev pub MakesCalls : List Call → Type 0
  MakesCalls calls =
      ((file : List ℕ) × (greatest : ℕ) × (ended : Ended) × AsksForFeed words (Some file) greatest
      × (calls ≡ fed (reads (inner_of input)) (writes (inner_of output))
      (writes (inner_of output')) ended ∷ []))
      ⊎ ((file : List ℕ) × (import : Import) × (from : List ℕ) × (ended : ImportEnded)
      × AsksForImport words file import from
      × (calls ≡ imported import (holds from) (writes (inner_of output))
      (writes (inner_of output')) ended ∷ []))
      ⊎ ((file : List ℕ) × (port : ℕ) × (connections : ℕ) × (greatest : ℕ)
      × (serving : Serving) × AsksForServing words file port connections greatest
      × serves port serving × (calls ≡ connections_of serving.exchanges))
      ⊎ ((file : List ℕ) × (target : List ℕ) × (told : Told) × AsksForReport words file target
      × (Appends (writes (inner_of output)) (writes (inner_of output')) (report_output told)
      ⊎ SendsFront (writes (inner_of output)) (writes (inner_of output')) (report_output told))
      × (calls ≡ asked target told ∷ []))
      ⊎ ((file : List ℕ) × AsksForAudit words file × (calls ≡ []))
      ⊎ ((file : List ℕ) × (import : Import) × (from : List ℕ)
      × AsksForImport words file import from × IsUnread from × (calls ≡ []))

  -- The files that this run closed are those after it and any number of earlier runs on them, as one run that made the
  -- calls of all: each was answered by the history before it, which is lawful and consistent, and the files hold the
  -- tables of the last one (`IsRunFrom`).
  abbrev pub GoesOn : {T D : Type 0} → start.Ghosts T → disk.Ghosts D → Files D → Type 0
  GoesOn first g files = AsksForNoCalls words
      ⊎ ((make : Option ℕ) × (calls : List Call) × MakesCalls calls
      × ((run : Run) (runs : List Run) (image : Image) → IsRun report_of run
      → AreRuns report_of run.last runs → (as_one run runs).last ≡ image_at first
      → ReadsClean g files image
      → IsRun report_of (run_then (as_one run runs) (run_of first make calls image))))

-- The end of a run, by the command that its arguments ask for.
use Rattle.std.specs.Prelude.{◌≡◌, ◌⊎◌, ◌<◌, ◌+◌, ◌^◌, ℕ, List, Option, None, string_bytes}
use Rattle.sqlite_disk.specs.declared.Disk as disk
use Rattle.sqlite_disk.specs.declared.Files.{Files}
use Rattle.sqlite_wal.specs.Recovery.{Image}
use Rattle.desk_types.specs.declared.wire.Wire.{Wire}
use Rattle.desk_types.specs.Wire.{failures_of}
use Rattle.desk_commands.specs.Clients.{Serving}
use Rattle.desk_commands.specs.Closed.{failed, whole}
use Rattle.desk_commands.specs.Connections.{AnswersInTurn}
use Rattle.desk_commands.specs.Ends.{PrintEnds, ReportEnds, ServingEnds}
use Rattle.desk_commands.specs.Told.{unavailable_line, Tells, TellsLine}
use Rattle.line_http.specs.Rule.{line_rule}
use Rattle.line_reads.specs.Doubts.{IsOfDoubts}
use Rattle.line_reads.specs.Ends.{AnswersState, Counts, HasNoLine, IsBook, counts_line}
use Rattle.line_commands.specs.Noting.{AreCounts, HasNoEntry, IsSaid}
use Rattle.line_commands.specs.Serving.{ClosesLists, HasNoLists, ServesLists}
use Rattle.line_commands.specs.declared.left.LineLeft.{LineLeft}
use Rattle.line_answers.specs.declared.noted.Noted.{Noted}
use Rattle.line_words.specs.CommandLine.{Asks, AsksForNote, AsksForServing, AsksForTask}
use Rattle.line_words.specs.declared.command_line.LineCommand.{LineCommand}
use Rattle.line_words.specs.declared.command_line.LineCommand.TheVariants.{Serve, Note, State, Doubt, Whole, Text, Bad}
use Rattle.line_words.specs.declared.command_line.Task.{Task}
use Rattle.line_words.specs.declared.command_line.Task.TheVariants.{Make, Book, Audit}

-- The counts of the wires have room for a run, and for the line that a failed close prints.
pub record HaveRoom {W E : Type 0} (output : Wire W) (errors : Wire E) : Type 0 where
  pub write_failures : failures_of output < 2 ^ 63
  pub error_failures : failures_of errors + 1 < 2 ^ 63

-- The arguments ask to serve a line.
abbrev pub AsksToServe : List (List ℕ) → Type 0
AsksToServe words = (file : List ℕ) × (port : ℕ) × (connections : ℕ)
    × AsksForServing words file port connections

-- The arguments ask for a command that may change a file.
abbrev pub AsksToChange : List (List ℕ) → Type 0
AsksToChange words = AsksToServe words ⊎ ((file : List ℕ) × AsksForTask words file Make)
    ⊎ ((file : List ℕ) × (noted : Noted) × (told : List ℕ) × AsksForNote words file noted told)

-- What a command left open was closed, after this status. Or a close failed: then the status is 3, and Unavailable was
-- printed, unless a fault was before.
abbrev pub ClosesAs : {D E : Type 0} {g : disk.Ghosts D} → (E → Option (List ℕ)) → ℕ → LineLeft D g
    → Wire E → Wire E → Option (Files D) → ℕ → Type 0
ClosesAs tells status left told errors' files exit =
    (ClosesLists whole left files × (exit ≡ status) × (errors' ≡ told))
    ⊎ (ClosesLists failed left files × (exit ≡ 3)
    × (((status ≡ 3) × (errors' ≡ told)) ⊎ TellsLine tells told errors' unavailable_line))

-- What is done with both lists of files with these contents. `writes` and `tells` give the bytes sent to a writer, if known.
module _ {F W E : Type 0} (g : disk.Ghosts F) (image : Image) (writes : W → Option (List ℕ))
    (tells : E → Option (List ℕ)) (output output' : Wire W) (errors errors' : Wire E)
    (files : Option (Files F)) (exit : ℕ) where
  -- What was said was written into the book, or not taken, as the answer says. The file was then closed.
  abbrev pub EndsNote : Noted → List ℕ → Type 0
  EndsNote noted body = (left : LineLeft F g) × (status : ℕ) × (told : Wire E)
      × ReportEnds writes tells output output' errors told
      (λ answer. ServesLists image left (IsSaid noted body answer))
      (HasNoEntry image left tells errors told) status
      × ClosesAs tells status left told errors' files exit

  abbrev pub EndsTask : Task → Type 0
  -- The lengths of both lists that were there or were made. The file was then closed.
  EndsTask Make = (left : LineLeft F g) × (status : ℕ) × (told : Wire E)
      × (commands : ℕ) × (entries : ℕ)
      × PrintEnds writes tells output output' errors told (counts_line commands entries)
      (HasNoEntry image left tells errors told) status
      × ((status ≡ 0) ⊎ (status ≡ 4) → ServesLists image left (AreCounts commands entries))
      × ClosesAs tells status left told errors' files exit
  -- The book that the file held, or the fault of a list.
  EndsTask Book = (text : List ℕ)
      × PrintEnds writes tells output output' errors errors' text
      (HasNoLine g image files tells errors errors') exit
      × ((exit ≡ 0) ⊎ (exit ≡ 4) → IsBook g image files text)
  -- The lengths of both lists that the file held, or the fault of one.
  EndsTask Audit =
      (commands : ℕ) × (entries : ℕ)
      × PrintEnds writes tells output output' errors errors' (counts_line commands entries)
      (HasNoLine g image files tells errors errors') exit
      × ((exit ≡ 0) ⊎ (exit ≡ 4) → Counts g image files commands entries)

-- A run on files with these contents. `serves` gives the connections on a port.
module _ {F W E : Type 0} (g : disk.Ghosts F) (image : Image) (serves : ℕ → Serving → Type 0)
    (writes : W → Option (List ℕ)) (tells : E → Option (List ℕ)) (words : List (List ℕ))
    (output output' : Wire W) (errors errors' : Wire E) (files : Option (Files F)) (exit : ℕ) where
  -- The connections on the port were served by both lists of the file, which was then closed.
  abbrev pub EndsServing : ℕ → ℕ → Type 0
  EndsServing port connections = (left : LineLeft F g) × (status : ℕ) × (told : Wire E)
      × ServingEnds writes tells output output' errors told connections (serves port)
      (λ es. ServesLists image left (AnswersInTurn line_rule es))
      (HasNoLists image left tells errors told) status
      × ClosesAs tells status left told errors' files exit

  -- The end of this command.
  abbrev pub EndsAs : LineCommand → Type 0
  EndsAs (Serve file port connections) = EndsServing port connections
  -- The answer about the machine by both lists that the file held, or the fault of one.
  EndsAs (State file machine) =
      ReportEnds writes tells output output' errors errors' (AnswersState g image files machine)
      (HasNoLine g image files tells errors errors') exit
  EndsAs (Note file noted told) =
      EndsNote g image writes tells output output' errors errors' files exit noted
      (string_bytes told)
  -- The pieces in doubt by both lists that the file held, or the fault of one.
  EndsAs (Doubt file within) = (text : List ℕ)
      × PrintEnds writes tells output output' errors errors' text
      (HasNoLine g image files tells errors errors') exit
      × ((exit ≡ 0) ⊎ (exit ≡ 4) → IsOfDoubts within g image files text)
  EndsAs (Whole file task) =
      EndsTask g image writes tells output output' errors errors' files exit task
  -- Help or the version.
  EndsAs (Text text) = (files ≡ None)
      × PrintEnds writes tells output output' errors errors' (string_bytes text) ⊥ exit
  -- The arguments have no meaning, and standard error says why.
  EndsAs (Bad text) = (exit ≡ 2)
      × (files ≡ None) × (output' ≡ output) × Tells tells errors errors' (string_bytes text)

  -- A run with these arguments ends as their command does. Or memory was refused before.
  abbrev pub Ends : Type 0
  Ends = ((command : LineCommand) × Asks words command × EndsAs command)
      ⊎ ((exit ≡ 3) × (files ≡ None) × (output' ≡ output)
      × TellsLine tells errors errors' unavailable_line)

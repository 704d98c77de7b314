-- What the words of a command line ask for, by the grammar of `clap`.
use Rattle.std.specs.Prelude.{◌≡◌, ◌≢◌, ◌≤◌, ◌⊎◌, ⊤, true, codes, ℕ, List, [], ◌∷◌, Option, Some, None, string_bytes}
use Rattle.clap.specs.Faults.{fault_of}
use Rattle.clap.specs.Kinds.{Kinds, IsAmong}
use Rattle.clap.specs.Simple.{App, Shape, new_app, new_rule, new_shape, on_top, subcommand_of, with_subcommand}
use Rattle.clap.specs.Values.{IsUnsignedIn}
use Rattle.clap.specs.Walk.{Row, Rule, first_of}
use Rattle.clap.specs.declared.error.kind.ErrorKind.{ErrorKind}
use Rattle.desk_types.specs.Id.{IsId, Name}
use Rattle.desk_types.specs.declared.limits.TheConstants.{MOST_PORT}
use Rattle.desk_words.specs.CommandLine.{IsText, Shows, ShowsNone, number_of, required_option}
use Rattle.line_answers.specs.declared.noted.Noted.{Noted}
use Rattle.line_answers.specs.declared.noted.Noted.TheVariants.{Decided, Held, Released}
use Rattle.line_words.specs.declared.command_line.LineCommand.{LineCommand}
use Rattle.line_words.specs.declared.command_line.LineCommand.TheVariants.{Serve, Note, State, Doubt, Whole, Text, Bad}
use Rattle.line_words.specs.declared.command_line.Task.{Task}
use Rattle.line_words.specs.declared.command_line.Task.TheVariants.{Make, Book, Audit}

-- ---- the grammar

-- The option `--connections N`.
abbrev pub connections_rule : Rule
connections_rule = record (new_rule (codes "connections")) {
  long = Some (codes "connections");
  value_names = 1;
}

-- `serve` has a file and a port, each exactly once, and may have a number of connections.
abbrev pub serve_shape : Shape
serve_shape = record (new_shape (codes "serve")) {
  rules = required_option (codes "db")
      ∷ required_option (codes "port") ∷ connections_rule ∷ [];
}

-- `state` has a file and a machine, each exactly once.
abbrev pub state_shape : Shape
state_shape = record (new_shape (codes "state")) {
  rules =
      required_option (codes "db") ∷ required_option (codes "machine") ∷ [];
}

-- The option `--within N`.
abbrev pub within_rule : Rule
within_rule = record (new_rule (codes "within")) { long = Some (codes "within"); value_names = 1 }

-- `doubt` has a file, exactly once, and may have a tolerance.
abbrev pub doubt_shape : Shape
doubt_shape = record (new_shape (codes "doubt")) {
  rules = required_option (codes "db") ∷ within_rule ∷ [];
}

-- `note` has a file, a kind and what is said, each exactly once.
abbrev pub note_shape : Shape
note_shape = record (new_shape (codes "note")) {
  rules = required_option (codes "db")
      ∷ required_option (codes "kind") ∷ required_option (codes "told") ∷ [];
}

-- A command with this name has a file alone.
abbrev pub file_shape : List ℕ → Shape
file_shape name = record (new_shape name) { rules = required_option (codes "db") ∷ [] }

-- The command that asks for the task.
abbrev pub task_name : Task → List ℕ
task_name Make = codes "make"
task_name Book = codes "book"
task_name Audit = codes "audit"

-- The program has a version, and requires a command.
abbrev pub bare : App
bare = on_top (λ s. record s {
  no_binary_name = true;
  disable_help_subcommand = true;
  subcommand_required = true;
  has_version = true;
}) (new_app (codes "tracedesk-line"))

-- The seven commands.
abbrev pub commands : App
commands = with_subcommand (with_subcommand (with_subcommand (with_subcommand (with_subcommand
    (with_subcommand (with_subcommand bare serve_shape) (file_shape (task_name Make))) note_shape)
    state_shape) (file_shape (task_name Book))) doubt_shape) (file_shape (task_name Audit))

-- The text printed if the arguments are no command: help, the version, or a mistake.
unfoldable pub told_of : List (List ℕ) → Kinds
told_of words = fault_of commands words

-- The command that the arguments name, and the options that were found.
unfoldable pub named_by : List (List ℕ) → Option (List ℕ × List Row)
named_by words = subcommand_of commands words

-- ---- the number of connections

-- The greatest number, which is also the number without an option.
abbrev pub most_connections : ℕ
most_connections = 4294967295

-- The number is that of the text, or the greatest if there is no text.
abbrev pub Serves : Option (List ℕ) → ℕ → Type 0
Serves None connections = connections ≡ most_connections
Serves (Some text) connections =
    IsUnsignedIn 1 most_connections text × (connections ≡ number_of text)

-- There is a text, and it is no such number.
abbrev pub ServesNone : Option (List ℕ) → Type 0
ServesNone None = ⊥
ServesNone (Some text) = IsUnsignedIn 1 most_connections text → ⊥

-- ---- the tolerance at a splice

-- The number is that of the text, or 0 if there is no text.
abbrev pub IsWithin : Option (List ℕ) → ℕ → Type 0
IsWithin None within = within ≡ 0
IsWithin (Some text) within = IsUnsignedIn 1 4294967295 text × (within ≡ number_of text)

-- There is a text, and it is no such number.
abbrev pub IsWithinNone : Option (List ℕ) → Type 0
IsWithinNone None = ⊥
IsWithinNone (Some text) = IsUnsignedIn 1 4294967295 text → ⊥

-- ---- meaning

-- The grammar reads the arguments as this command, with these options.
abbrev pub Names : List (List ℕ) → List ℕ → List Row → Type 0
Names words name rows = (told_of words ≡ []) × (named_by words ≡ Some (name, rows))

-- The text of an option is present, and is this name.
abbrev pub ShowsName : Option (List ℕ) → Name → Type 0
ShowsName None name = ⊥
ShowsName (Some text) name = IsId text × (name ≡ text)

-- It is absent, or is no name.
abbrev pub ShowsNoName : Option (List ℕ) → Type 0
ShowsNoName None = ⊤
ShowsNoName (Some text) = IsId text → ⊥

-- The arguments mean: serve this number of connections at this port, by the lists of this file.
abbrev pub AsksForServing : List (List ℕ) → List ℕ → ℕ → ℕ → Type 0
AsksForServing words file port connections =
    (rows : List Row) × Names words (codes "serve") rows
    × (first_of (codes "db") rows ≡ Some file)
    × Shows MOST_PORT (first_of (codes "port") rows) port
    × Serves (first_of (codes "connections") rows) connections

-- The text of an option is present, and names the kind of this entry.
abbrev pub ShowsNoted : Option (List ℕ) → Noted → Type 0
ShowsNoted None noted = ⊥
ShowsNoted (Some text) Decided = text ≡ codes "decision"
ShowsNoted (Some text) Held = text ≡ codes "hold"
ShowsNoted (Some text) Released = text ≡ codes "release"

-- It is absent, or names none of them.
abbrev pub ShowsNoNoted : Option (List ℕ) → Type 0
ShowsNoNoted None = ⊤
ShowsNoNoted (Some text) =
    (text ≢ codes "decision") × (text ≢ codes "hold") × (text ≢ codes "release")

-- The arguments mean: write what was said into the book of this file.
abbrev pub AsksForNote : List (List ℕ) → List ℕ → Noted → List ℕ → Type 0
AsksForNote words file noted told =
    (rows : List Row) × Names words (codes "note") rows
    × (first_of (codes "db") rows ≡ Some file)
    × ShowsNoted (first_of (codes "kind") rows) noted
    × (first_of (codes "told") rows ≡ Some told)

-- The arguments mean: print whether this machine may work, by the lists of this file.
abbrev pub AsksForState : List (List ℕ) → List ℕ → Name → Type 0
AsksForState words file machine =
    (rows : List Row) × Names words (codes "state") rows
    × (first_of (codes "db") rows ≡ Some file)
    × ShowsName (first_of (codes "machine") rows) machine

-- The arguments mean: print the pieces in doubt by the lists of this file, with this tolerance.
abbrev pub AsksForDoubt : List (List ℕ) → List ℕ → ℕ → Type 0
AsksForDoubt words file within =
    (rows : List Row) × Names words (codes "doubt") rows
    × (first_of (codes "db") rows ≡ Some file)
    × IsWithin (first_of (codes "within") rows) within

-- The arguments mean: do this with the lists of this file.
abbrev pub AsksForTask : List (List ℕ) → List ℕ → Task → Type 0
AsksForTask words file task = (rows : List Row) × Names words (task_name task) rows
    × (first_of (codes "db") rows ≡ Some file)

-- The arguments ask for help or for the version.
abbrev pub AsksForText : List (List ℕ) → Type 0
AsksForText words = (kind : ErrorKind) × IsAmong kind (told_of words) × IsText kind

-- The grammar rejects the arguments.
abbrev pub IsMistaken : List (List ℕ) → Type 0
IsMistaken words = (kind : ErrorKind) × IsAmong kind (told_of words) × (IsText kind → ⊥)

-- A value of `serve` is not valid.
abbrev pub HasBadServing : List Row → Type 0
HasBadServing rows = ShowsNone MOST_PORT (first_of (codes "port") rows)
    ⊎ ServesNone (first_of (codes "connections") rows) ⊎ (first_of (codes "db") rows ≡ None)

-- A value of `state` is not valid.
abbrev pub HasBadState : List Row → Type 0
HasBadState rows =
    (first_of (codes "db") rows ≡ None) ⊎ ShowsNoName (first_of (codes "machine") rows)

-- A value of `doubt` is not valid.
abbrev pub HasBadDoubt : List Row → Type 0
HasBadDoubt rows =
    IsWithinNone (first_of (codes "within") rows) ⊎ (first_of (codes "db") rows ≡ None)

-- A value of `note` is not valid.
abbrev pub HasBadNote : List Row → Type 0
HasBadNote rows = ShowsNoNoted (first_of (codes "kind") rows)
    ⊎ (first_of (codes "told") rows ≡ None) ⊎ (first_of (codes "db") rows ≡ None)

-- The grammar accepts the arguments, but a value of the command is not valid.
abbrev pub HasBadValue : List (List ℕ) → Type 0
HasBadValue words =
    (rows : List Row)
    × ((Names words (codes "serve") rows × HasBadServing rows)
    ⊎ (Names words (codes "state") rows × HasBadState rows)
    ⊎ (Names words (codes "note") rows × HasBadNote rows)
    ⊎ (Names words (codes "doubt") rows × HasBadDoubt rows)
    ⊎ ((task : Task) × Names words (task_name task) rows × (first_of (codes "db") rows ≡ None)))

-- The command is none of the seven.
abbrev pub IsNoCommand : Option (List ℕ × List Row) → Type 0
IsNoCommand None = ⊤
IsNoCommand (Some named) =
    (named.0 ≢ codes "serve") × (named.0 ≢ codes "make") × (named.0 ≢ codes "note")
    × (named.0 ≢ codes "state") × (named.0 ≢ codes "book") × (named.0 ≢ codes "doubt")
    × (named.0 ≢ codes "audit")

-- The grammar accepts the arguments, but they name no command.
abbrev pub NamesNone : List (List ℕ) → Type 0
NamesNone words = (told_of words ≡ []) × IsNoCommand (named_by words)

-- The arguments have no meaning.
abbrev pub AsksForNothing : List (List ℕ) → Type 0
AsksForNothing words = IsMistaken words ⊎ NamesNone words ⊎ HasBadValue words

-- The meaning of the arguments.
abbrev pub Asks : List (List ℕ) → LineCommand → Type 0
Asks words (Serve file port connections) =
    AsksForServing words (string_bytes file) port connections
Asks words (Note file noted told) =
    AsksForNote words (string_bytes file) noted (string_bytes told)
Asks words (State file machine) = AsksForState words (string_bytes file) machine
Asks words (Doubt file within) = AsksForDoubt words (string_bytes file) within
Asks words (Whole file task) = AsksForTask words (string_bytes file) task
Asks words (Text text) = AsksForText words
Asks words (Bad text) = AsksForNothing words

-- At least one connection is served.
abbrev pub IsInRange : LineCommand → Type 0
IsInRange (Serve file port connections) = 1 ≤ connections
IsInRange _ = ⊤

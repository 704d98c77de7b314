-- What the words of a command line ask for, by the grammar of `clap`.
use Rattle.std.specs.Prelude.{◌≡◌, ◌≤◌, ◌⊎◌, ⊤, true, codes, ℕ, List, [], ◌∷◌, Option, Some, None, IsSomeAnd, option_map, unwrap_or, Result, Ok, Err, string_bytes}
use Rattle.std.specs.Str.Parse.{digits_value, without_leading_plus}
use Rattle.clap.specs.Faults.{fault_of}
use Rattle.clap.specs.Kinds.{Kinds, IsAmong}
use Rattle.clap.specs.Simple.{App, Shape, new_app, new_rule, new_shape, on_top, subcommand_of, with_rule, with_subcommand}
use Rattle.clap.specs.Values.{IsUnsignedIn}
use Rattle.clap.specs.Walk.{Row, Rule, first_of}
use Rattle.clap.specs.declared.error.kind.ErrorKind.{ErrorKind}
use Rattle.clap.specs.declared.error.kind.ErrorKind.TheVariants.{DisplayHelp, DisplayVersion}
use Rattle.desk_types.specs.declared.limits.TheConstants.{MOST_CONNECTIONS, MOST_ENTRIES, MOST_PORT}
use Rattle.desk_feed.specs.declared.options.BadOption.{BadOption}
use Rattle.imports.specs.declared.import.Import.{Import}
use Rattle.desk_feed.specs.Options.{counts_import, setup_import}
use Rattle.desk_words.specs.declared.command_line.CommandLine.{CommandLine}
use Rattle.desk_words.specs.declared.command_line.CommandLine.TheVariants.{Feed, Serve, Report, Audit, Migrate, Import as ToImport, BadOption as OfBadOption, Text, Bad}

-- ---- the grammar

-- The option `--db FILE`.
abbrev pub file_rule : Rule
file_rule = record (new_rule (codes "db")) { long = Some (codes "db"); value_names = 1 }

-- The option `--greatest N`.
abbrev pub greatest_rule : Rule
greatest_rule =
    record (new_rule (codes "greatest")) { long = Some (codes "greatest"); value_names = 1 }

-- `feed` may have both options, and neither twice.
abbrev pub feed_shape : Shape
feed_shape = record (new_shape (codes "feed")) { rules = file_rule ∷ greatest_rule ∷ [] }

-- An option of this name with a value, which has to be there.
abbrev pub required_option : List ℕ → Rule
required_option name = record (new_rule name) { long = Some name; value_names = 1; required = true }

-- `serve` has a file, a port and a number of connections, and may have the greatest number of `feed`.
abbrev pub serve_shape : Shape
serve_shape = record (new_shape (codes "serve")) {
  rules = required_option (codes "db")
      ∷ required_option (codes "port") ∷ required_option (codes "connections") ∷ greatest_rule ∷ [];
}

-- `report` has a file, and the target of a request.
abbrev pub report_shape : Shape
report_shape = record (new_shape (codes "report")) {
  rules =
      required_option (codes "db") ∷ required_option (codes "get") ∷ [];
}

-- `audit` has a file.
abbrev pub audit_shape : Shape
audit_shape = record (new_shape (codes "audit")) {
  rules =
      record file_rule { required = true } ∷ [];
}

-- `migrate` has a file.
abbrev pub migrate_shape : Shape
migrate_shape =
    record (new_shape (codes "migrate")) { rules = record file_rule { required = true } ∷ [] }

-- A command with the options of both imports: a desk's file, and the UniqueID, source and time of the command.
abbrev pub with_stamp : App → App
with_stamp command = with_rule (with_rule
    (with_rule (with_rule command (required_option (codes "db"))) (required_option (codes "id")))
    (required_option (codes "source"))) (required_option (codes "time"))

-- `import-setup` has a desk's file, the UniqueID, source and time of its command, a product, a machine, and the file to
-- read.
abbrev pub import_setup_shape : Shape
import_setup_shape =
    record (new_shape (codes "import-setup")) {
      rules = required_option (codes "db") ∷ required_option (codes "id") ∷ required_option
          (codes "source") ∷ required_option (codes "time")
          ∷ required_option (codes "product") ∷ required_option (codes "machine")
          ∷ required_option (codes "file") ∷ [];
    }

-- `import-counts` has the same without a product and a machine.
abbrev pub import_counts_shape : Shape
import_counts_shape =
    record (new_shape (codes "import-counts")) {
      rules = required_option (codes "db") ∷ required_option (codes "id") ∷ required_option
          (codes "source") ∷ required_option (codes "time") ∷ required_option (codes "file") ∷ [];
    }

-- The program has a version, and requires a command.
abbrev pub bare : App
bare = on_top (λ s. record s {
  no_binary_name = true;
  disable_help_subcommand = true;
  subcommand_required = true;
  has_version = true;
}) (new_app (codes "tracedesk"))

-- The commands that answer messages and files.
abbrev pub with_answering : App
with_answering = with_subcommand (with_subcommand (with_subcommand
    (with_subcommand bare feed_shape) serve_shape) import_setup_shape) import_counts_shape

-- The commands that only look, and `migrate`: seven in all.
abbrev pub commands : App
commands = with_subcommand
    (with_subcommand (with_subcommand with_answering report_shape) audit_shape) migrate_shape

-- The text printed if the arguments are no command: help, the version, or a mistake.
unfoldable pub told_of : List (List ℕ) → Kinds
told_of words = fault_of commands words

-- The command that the arguments name, and the options that were found.
unfoldable pub named_by : List (List ℕ) → Option (List ℕ × List Row)
named_by words = subcommand_of commands words

-- ---- the numbers

-- The number in the digits of a text, which may begin with a plus.
abbrev pub number_of : List ℕ → ℕ
number_of text = digits_value 10 (without_leading_plus text)

-- The text is a number from 1 to the greatest number of a desk.
abbrev pub IsGreatest : List ℕ → Type 0
IsGreatest text = IsUnsignedIn 1 MOST_ENTRIES text

-- The text of an option is present, and is this number from 1 to the greatest.
abbrev pub Shows : ℕ → Option (List ℕ) → ℕ → Type 0
Shows most None number = ⊥
Shows most (Some text) number = IsUnsignedIn 1 most text × (number ≡ number_of text)

-- It is absent, or is no number from 1 to the greatest.
abbrev pub ShowsNone : ℕ → Option (List ℕ) → Type 0
ShowsNone most None = ⊤
ShowsNone most (Some text) = IsUnsignedIn 1 most text → ⊥

-- The greatest number is that of the text, or the default if there is no text.
abbrev pub GoesUpTo : Option (List ℕ) → ℕ → Type 0
GoesUpTo None greatest = greatest ≡ MOST_ENTRIES
GoesUpTo (Some text) greatest = IsGreatest text × (greatest ≡ number_of text)

-- ---- meaning

-- The grammar reads the arguments as this command, with these options.
abbrev pub Names : List (List ℕ) → List ℕ → List Row → Type 0
Names words name rows = (told_of words ≡ []) × (named_by words ≡ Some (name, rows))

-- The arguments mean: answer lines on the desk of this file, or in memory, and up to this number if a desk is made.
abbrev pub AsksForFeed : List (List ℕ) → Option (List ℕ) → ℕ → Type 0
AsksForFeed words file greatest =
    (rows : List Row) × Names words (codes "feed") rows
    × (first_of (codes "db") rows ≡ file) × GoesUpTo (first_of (codes "greatest") rows) greatest

-- The arguments mean: serve this number of connections at this port, by the desk of this file, and up to this number if
-- a desk is made.
abbrev pub AsksForServing : List (List ℕ) → List ℕ → ℕ → ℕ → ℕ → Type 0
AsksForServing words file port connections greatest =
    (rows : List Row) × Names words (codes "serve") rows
    × (first_of (codes "db") rows ≡ Some file)
    × Shows MOST_PORT (first_of (codes "port") rows) port
    × Shows MOST_CONNECTIONS (first_of (codes "connections") rows) connections
    × GoesUpTo (first_of (codes "greatest") rows) greatest

-- The arguments mean: print the report for a GET of this target, by the desk of this file.
abbrev pub AsksForReport : List (List ℕ) → List ℕ → List ℕ → Type 0
AsksForReport words file target =
    (rows : List Row) × Names words (codes "report") rows
    × (first_of (codes "db") rows ≡ Some file) × (first_of (codes "get") rows ≡ Some target)

-- The arguments mean: audit the desk of this file.
abbrev pub AsksForAudit : List (List ℕ) → List ℕ → Type 0
AsksForAudit words file =
    (rows : List Row) × Names words (codes "audit") rows × (first_of (codes "db") rows ≡ Some file)

-- The arguments mean: migrate this file.
abbrev pub AsksForMigration : List (List ℕ) → List ℕ → Type 0
AsksForMigration words file =
    (rows : List Row) × Names words (codes "migrate") rows
    × (first_of (codes "db") rows ≡ Some file)

-- The text of an option that the grammar requires.
abbrev pub text_of : List Row → List ℕ → List ℕ
text_of rows name = unwrap_or (first_of name rows) []

-- The import in the options of `import-setup`.
abbrev pub setup_in : List Row → Result Import BadOption
setup_in rows = setup_import (text_of rows (codes "id")) (text_of rows (codes "source"))
    (text_of rows (codes "time")) (text_of rows (codes "product")) (text_of rows (codes "machine"))

-- The import in the options of `import-counts`.
abbrev pub counts_in : List Row → Result Import BadOption
counts_in rows = counts_import (text_of rows (codes "id")) (text_of rows (codes "source"))
    (text_of rows (codes "time"))

-- The arguments are those of an import with these options.
abbrev pub NamesImport : List (List ℕ) → List Row → Result Import BadOption → Type 0
NamesImport words rows said =
    (Names words (codes "import-setup") rows × (said ≡ setup_in rows))
    ⊎ (Names words (codes "import-counts") rows × (said ≡ counts_in rows))

-- The arguments mean: answer this import, with the records of that file, by the desk of this file.
abbrev pub AsksForImport : List (List ℕ) → List ℕ → Import → List ℕ → Type 0
AsksForImport words file import from =
    (rows : List Row) × NamesImport words rows (Ok import)
    × (first_of (codes "db") rows ≡ Some file) × (first_of (codes "file") rows ≡ Some from)

-- The arguments are those of an import, and this is its first option that can't be read.
abbrev pub HasBadOption : List (List ℕ) → BadOption → Type 0
HasBadOption words option = (rows : List Row) × NamesImport words rows (Err option)

abbrev pub IsText : ErrorKind → Type 0
IsText kind = (kind ≡ DisplayHelp) ⊎ (kind ≡ DisplayVersion)

-- The arguments ask for help or for the version.
abbrev pub AsksForText : List (List ℕ) → Type 0
AsksForText words = (kind : ErrorKind) × IsAmong kind (told_of words) × IsText kind

-- The grammar rejects the arguments.
abbrev pub IsMistaken : List (List ℕ) → Type 0
IsMistaken words = (kind : ErrorKind) × IsAmong kind (told_of words) × (IsText kind → ⊥)

-- The greatest number is not valid.
abbrev pub HasNoGreatest : List Row → Type 0
HasNoGreatest rows = IsSomeAnd (first_of (codes "greatest") rows) (λ text. IsGreatest text → ⊥)

-- A value of `serve` is not valid.
abbrev pub HasBadServing : List Row → Type 0
HasBadServing rows =
    ShowsNone MOST_PORT (first_of (codes "port") rows)
    ⊎ ShowsNone MOST_CONNECTIONS (first_of (codes "connections") rows)
    ⊎ HasNoGreatest rows
    ⊎ (first_of (codes "db") rows ≡ None)

-- The grammar accepts the arguments, but a value of the command is not valid.
abbrev pub HasBadValue : List (List ℕ) → Type 0
HasBadValue words =
    (rows : List Row)
    × ((Names words (codes "feed") rows × HasNoGreatest rows)
    ⊎ (Names words (codes "serve") rows × HasBadServing rows)
    ⊎ (Names words (codes "report") rows
    × ((first_of (codes "db") rows ≡ None) ⊎ (first_of (codes "get") rows ≡ None)))
    ⊎ (Names words (codes "audit") rows × (first_of (codes "db") rows ≡ None))
    ⊎ (Names words (codes "migrate") rows × (first_of (codes "db") rows ≡ None))
    ⊎ ((import : Import) × NamesImport words rows (Ok import)
    × ((first_of (codes "db") rows ≡ None) ⊎ (first_of (codes "file") rows ≡ None))))

-- The arguments have no meaning.
abbrev pub AsksForNothing : List (List ℕ) → Type 0
AsksForNothing words = IsMistaken words ⊎ HasBadValue words

-- The arguments mean something other than `feed`.
abbrev pub AsksForOther : List (List ℕ) → Type 0
AsksForOther words =
    ((file : List ℕ) × AsksForAudit words file) ⊎ ((file : List ℕ) × AsksForMigration words file)
    ⊎ ((file : List ℕ) × (import : Import) × (from : List ℕ) × AsksForImport words file import from)
    ⊎ ((file : List ℕ) × (port : ℕ) × (connections : ℕ) × (greatest : ℕ)
    × AsksForServing words file port connections greatest)
    ⊎ ((file : List ℕ) × (target : List ℕ) × AsksForReport words file target)
    ⊎ ((option : BadOption) × HasBadOption words option) ⊎ AsksForText words ⊎ AsksForNothing words

-- The meaning of the arguments.
abbrev pub Asks : List (List ℕ) → CommandLine → Type 0
Asks words (Feed file greatest) = AsksForFeed words (option_map string_bytes file) greatest
Asks words (Serve file port connections greatest) =
    AsksForServing words (string_bytes file) port connections greatest
Asks words (Report file target) = AsksForReport words (string_bytes file) (string_bytes target)
Asks words (Audit file) = AsksForAudit words (string_bytes file)
Asks words (Migrate file) = AsksForMigration words (string_bytes file)
Asks words (ToImport file import from) =
    AsksForImport words (string_bytes file) import (string_bytes from)
Asks words (OfBadOption option) = HasBadOption words option
Asks words (Text text) = AsksForText words
Asks words (Bad text) = AsksForNothing words

-- The greatest number is valid for a desk, and at least one connection is served.
abbrev pub IsInRange : CommandLine → Type 0
IsInRange (Feed file greatest) = (1 ≤ greatest) × (greatest ≤ MOST_ENTRIES)
IsInRange (Serve file port connections greatest) = (1 ≤ connections) × (1 ≤ greatest)
    × (greatest ≤ MOST_ENTRIES)
IsInRange _ = ⊤

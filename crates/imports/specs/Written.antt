-- The files that `csv` writes for commands. Reading them gives the command back, unless the file is
-- too long.
use Rattle.std.specs.Prelude.{◌≡◌, ◌≤◌, ℕ, List, [], ◌∷◌, length, map, decimal, codes, Ok, flat_map}
use Rattle.std.specs.List.{join_with_byte}
use Rattle.csv.specs.Writing.{default_writer, row_text}
use Rattle.desk_types.specs.Command.{IsCommand}
use Rattle.desk_types.specs.Id.{Name}
use Rattle.desk_types.specs.declared.command.Command.TheVariants.{SheetDefined, CountsTaken}
use Rattle.desk_types.specs.declared.count.CountRow.{CountRow}
use Rattle.desk_types.specs.declared.sheet.SheetRow.{SheetRow}
use Rattle.desk_types.specs.declared.limits.TheConstants.{LONGEST_INPUT}
use Rattle.imports.specs.File.{Record, setup_said, counts_said}

-- The records, each with a line feed; fields with a comma, quote or line end are quoted.
abbrev pub records_text : List Record → List ℕ
records_text records = flat_map (row_text default_writer) records

abbrev pub sheet_header : Record
sheet_header = codes "slot" ∷ codes "part" ∷ codes "designators" ∷ []

-- A sheet's row, with its designators separated by single spaces.
abbrev pub sheet_fields : SheetRow → Record
sheet_fields row = row.slot ∷ row.part ∷ join_with_byte 0x20 row.designators ∷ []

abbrev pub setup_text : List SheetRow → List ℕ
setup_text rows = records_text (sheet_header ∷ map sheet_fields rows)

abbrev pub counts_header : Record
counts_header = codes "reel" ∷ codes "quantity" ∷ []

-- A count's row, with its pieces in decimal.
abbrev pub count_fields : CountRow → Record
count_fields row = row.reel ∷ decimal row.quantity ∷ []

abbrev pub counts_text : List CountRow → List ℕ
counts_text counts = records_text (counts_header ∷ map count_fields counts)

-- Reading a sheet's file gives the sheet.
abbrev pub SheetsAreSaid : Type 0
SheetsAreSaid =
    (product machine : Name) (rows : List SheetRow) → IsCommand (SheetDefined product machine rows)
    → length (setup_text rows) ≤ LONGEST_INPUT
    → setup_said product machine (setup_text rows) ≡ Ok (SheetDefined product machine rows)

-- Reading a count's file gives the counts.
abbrev pub CountsAreSaid : Type 0
CountsAreSaid =
    (counts : List CountRow) → IsCommand (CountsTaken counts)
    → length (counts_text counts) ≤ LONGEST_INPUT
    → counts_said (counts_text counts) ≡ Ok (CountsTaken counts)

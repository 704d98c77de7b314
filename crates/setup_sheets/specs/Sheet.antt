-- The validation of a sheet.
use Rattle.std.specs.Prelude.{◌≡◌, ⊤, Some, None, Result, Ok, Err, List}
use Rattle.desk_types.specs.declared.sheet.SheetRow.{SheetRow}
use Rattle.desk_types.specs.Id.{Name}
use Rattle.desk_types.specs.Refusals.{sheet_refusal}
use Rattle.setup_sheets.specs.declared.sheet.SheetFault.{SheetFault}
use Rattle.setup_sheets.specs.declared.sheet.SheetFault.TheVariants.{Refused, NoMemory}
use Rattle.setup_sheets.specs.Names.{is_among}

-- The result of validating the rows against these parts: no fault, the first fault, or out of
-- memory.
abbrev pub IsChecked : List Name → List SheetRow → Result (Unit {0}) SheetFault → Type 0
IsChecked parts rows (Ok done) = sheet_refusal (is_among parts) rows ≡ None
IsChecked parts rows (Err (Refused refusal)) = sheet_refusal (is_among parts) rows ≡ Some refusal
IsChecked parts rows (Err NoMemory) = ⊤

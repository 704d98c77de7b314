-- The content of setup and count files: a command, or the first fault. Records are judged in order,
-- and their fields from left to right.
use Rattle.std.specs.Prelude.{ℕ, suc, ◌==◌, ◌&&◌, nat_le, Bool, if◌then◌else◌, Option, Some, None, ok_or, Result, Ok, Err, List, [], ◌∷◌, length, unwrap_or, codes}
use Rattle.std.specs.List.{list_all, slice_split}
use Rattle.std.specs.Char.{is_ascii_digit}
use Rattle.std.specs.Str.{is_utf8}
use Rattle.std.specs.Str.Parse.{digits_value}
use Rattle.csv.specs.Reading.{records_from, default_config, strip_bom}
use Rattle.csv.specs.Records.{field_at}
use Rattle.csv.specs.declared.parser.State.TheVariants as st
use Rattle.cfx_profile.specs.Fault.{◌>>=◌}
use Rattle.cfx_profile.specs.Forms.{is_designator, id_of}
use Rattle.desk_types.specs.Id.{Name, same}
use Rattle.desk_types.specs.declared.command.Command.{Command}
use Rattle.desk_types.specs.declared.command.Command.TheVariants as command
use Rattle.desk_types.specs.declared.count.CountRow.{CountRow}
use Rattle.desk_types.specs.declared.sheet.SheetRow.{SheetRow}
use Rattle.desk_types.specs.declared.limits.TheConstants.{GREATEST_QUANTITY, LONGEST_INPUT, LONGEST_LIST, MOST_DIGITS}
use Rattle.imports.specs.declared.fault.ImportFault.{ImportFault}
use Rattle.imports.specs.declared.fault.ImportFault.TheVariants.{BadHeader, BadRow, BadField, OverLimit}
use Rattle.imports.specs.declared.records.TheConstants.{MOST_RECORDS}
use Rattle.imports.specs.declared.rows.TheConstants.{FIRST_ROW, LAST_ROW}

-- ---- records

-- A record's fields, each as bytes.
abbrev pub Record : Type 0
Record = List (List ℕ)

-- The first 5,002 records that `csv` reads after an optional byte order mark: header, 5,000 rows,
-- one too many.
abbrev pub records_of : List ℕ → List Record
records_of bytes = records_from default_config MOST_RECORDS st.StartRecord (strip_bom bytes)

-- The field at a place, from 0, or no bytes.
abbrev pub field : Record → ℕ → List ℕ
field fields place = unwrap_or (field_at fields place) []

-- The field, if it is UTF-8.
abbrev pub text_of : List ℕ → Option (List ℕ)
text_of bytes = if is_utf8 bytes then Some bytes else None

-- The fields of a record with two, if both are UTF-8.
unfoldable pub two_texts : Record → Option (List ℕ × List ℕ)
two_texts fields = if length fields == 2 && is_utf8 (field fields 0) && is_utf8 (field fields 1)
    then Some (field fields 0, field fields 1) else None

-- The fields of a record with three, if all are UTF-8.
unfoldable pub three_texts : Record → Option (List ℕ × List ℕ × List ℕ)
three_texts fields =
    if length fields == 3 && is_utf8 (field fields 0) && is_utf8 (field fields 1)
    && is_utf8 (field fields 2)
    then Some (field fields 0, field fields 1, field fields 2) else None

-- ---- fields

-- The text's words, separated by single spaces.
abbrev pub words_of : List ℕ → List (List ℕ)
words_of text = slice_split (λ byte. byte == 0x20) text

unfoldable pub designators_of : List ℕ → Option (List Name)
designators_of text = if list_all is_designator (words_of text)
    && nat_le (length (words_of text)) LONGEST_LIST then Some (words_of text) else None

abbrev pub is_number : List ℕ → Bool
is_number text = nat_le 1 (length text) && nat_le (length text) MOST_DIGITS
    && list_all is_ascii_digit text

unfoldable pub quantity_of : List ℕ → Option ℕ
quantity_of text = if is_number text && nat_le (digits_value 10 text) GREATEST_QUANTITY
    then Some (digits_value 10 text) else None

-- ---- setup files

abbrev pub is_setup_header : Record → Bool
is_setup_header fields = length fields == 3 && same (field fields 0) (codes "slot")
    && same (field fields 1) (codes "part") && same (field fields 2) (codes "designators")

-- A sheet's row.
unfoldable pub sheet_row : ℕ → Record → Result SheetRow ImportFault
sheet_row line fields = do
  row ← ok_or (three_texts fields) (BadRow line)
  slot ← ok_or (id_of row.0) (BadField line 1)
  part ← ok_or (id_of row.1) (BadField line 2)
  designators ← ok_or (designators_of row.2) (BadField line 3)
  Ok (record { slot = slot; part = part; designators = designators })

-- ---- count files

abbrev pub is_counts_header : Record → Bool
is_counts_header fields = length fields == 2 && same (field fields 0) (codes "reel")
    && same (field fields 1) (codes "quantity")

-- A count's row.
unfoldable pub count_row : ℕ → Record → Result CountRow ImportFault
count_row line fields = do
  row ← ok_or (two_texts fields) (BadRow line)
  reel ← ok_or (id_of row.0) (BadField line 1)
  quantity ← ok_or (quantity_of row.1) (BadField line 2)
  Ok (record { reel = reel; quantity = quantity })

-- ---- files

-- The row of a record, up to the last possible line.
abbrev pub row_at : {X : Type 0} → (ℕ → Record → Result X ImportFault) → ℕ
    → Record → Result X ImportFault
row_at reading line fields = if nat_le line LAST_ROW then reading line fields else Err OverLimit

-- The rows of the records from this line on, or the first fault.
abbrev pub each : {X : Type 0} → (ℕ → Record → Result X ImportFault) → ℕ → List Record
    → Result (List X) ImportFault
each reading line [] = Ok []
each reading line (fields ∷ rest) = do
  x ← row_at reading line fields
  xs ← each reading (suc line) rest
  Ok (x ∷ xs)

abbrev pub some_rows : {X : Type 0} → List X → Result (List X) ImportFault
some_rows [] = Err (BadRow FIRST_ROW)
some_rows (x ∷ xs) = Ok (x ∷ xs)

-- The rows of records, after their header.
abbrev pub rows_of : {X : Type 0} → (Record → Bool) → (ℕ → Record → Result X ImportFault)
    → List Record → Result (List X) ImportFault
rows_of is_header reading [] = Err BadHeader
rows_of is_header reading (first ∷ rest) = if is_header first then each reading FIRST_ROW rest
    >>= some_rows else Err BadHeader

-- The rows of a file of at most 1,048,576 bytes.
unfoldable pub file_rows : {X : Type 0} → (Record → Bool) → (ℕ → Record → Result X ImportFault)
    → List ℕ → Result (List X) ImportFault
file_rows is_header reading bytes = if nat_le (length bytes) LONGEST_INPUT
    then rows_of is_header reading (records_of bytes) else Err OverLimit

-- The content of a setup file: this product's sheet on this machine.
unfoldable pub setup_said : Name → Name → List ℕ → Result Command ImportFault
setup_said product machine bytes = do
  rows ← file_rows is_setup_header sheet_row bytes
  Ok (command.SheetDefined product machine rows)

-- The content of a count file.
unfoldable pub counts_said : List ℕ → Result Command ImportFault
counts_said bytes = do
  counts ← file_rows is_counts_header count_row bytes
  Ok (command.CountsTaken counts)

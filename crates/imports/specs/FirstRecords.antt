-- The first records of a file determine its content, however many are read.
use Rattle.std.specs.Prelude.{◌≡◌, ◌≤◌, ℕ, List}
use Rattle.csv.specs.Reading.{records_from, default_config, strip_bom}
use Rattle.csv.specs.declared.parser.State.TheVariants as st
use Rattle.imports.specs.File.{Record, records_of, rows_of, is_setup_header, sheet_row, is_counts_header, count_row}
use Rattle.imports.specs.declared.records.TheConstants.{MOST_RECORDS}

-- The file's first n records.
abbrev pub first_records : ℕ → List ℕ → List Record
first_records n bytes = records_from default_config n st.StartRecord (strip_bom bytes)

-- A setup file's first 5,002 records give the same rows or fault as any larger number.
abbrev pub SetupsByTheirFront : Type 0
SetupsByTheirFront = (bytes : List ℕ) (n : ℕ) → MOST_RECORDS ≤ n → rows_of is_setup_header sheet_row
    (first_records n bytes) ≡ rows_of is_setup_header sheet_row (records_of bytes)

-- The same for a count file.
abbrev pub CountsByTheirFront : Type 0
CountsByTheirFront = (bytes : List ℕ) (n : ℕ) → MOST_RECORDS ≤ n → rows_of is_counts_header
    count_row (first_records n bytes) ≡ rows_of is_counts_header count_row (records_of bytes)

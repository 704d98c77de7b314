-- Records as CSV.
use Rattle.std.specs.Global.{Global}
use Rattle.std.specs.Prelude.{◌≡◌, ℕ, false, Some, List, ◌++◌, Vec}
use Rattle.std.specs.List.{flat_map}
use Rattle.csv.specs.Writing.{default_writer, row_text, writer_setup, fields_written, has_written, text_written}
use Rattle.csv.specs.declared.writer.Writer.{Writer}

-- The text of a record in the default format of `csv`.
abbrev pub record_text : List (List ℕ) → List ℕ
record_text fields = row_text default_writer fields

-- The text of a header and records.
abbrev pub csv_text : List (List ℕ) → List (List (List ℕ)) → List ℕ
csv_text header records = record_text header ++ flat_map record_text records

-- The writer uses the default format of `csv`, has written this text, and is not inside a record.
pub record HasWritten (writer : Writer (Vec ℕ Global)) (bytes : List ℕ) : Type 0 where
  pub text : text_written (λ (v : Vec ℕ Global). Some v.items) writer ≡ Some bytes
  pub setup : writer_setup writer ≡ default_writer
  pub fields : fields_written writer ≡ 0
  pub clean : has_written writer ≡ false

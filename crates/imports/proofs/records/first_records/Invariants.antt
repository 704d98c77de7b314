use Rattle.desk_types.proofs.Common.{◌<◌, ◌≡◌, length, List, map, Some, ℕ}
use Rattle.csv.specs.Reading.{default_config, Reached, Ready, source_of, strip_bom}
use Rattle.csv.specs.Records.{fields_of}
use Rattle.imports.specs.declared.records.TheConstants.{MOST_RECORDS}
use Rattle.csv.specs.declared.parser.State.TheVariants as st
use Rattle.csv.specs.declared.reader.Trim.TheVariants as trim
use Rattle.imports.proofs.records.first_records.Given as goal

-- Reading the records so far left the reader with its remaining bytes.
abbrev pub invariant-loop-row : goal.invariant-loop-row
invariant-loop-row l = (length l.records.items < MOST_RECORDS) × (l.row-iterator.rdr.trim ≡ trim.None) × Ready l.row-iterator.rdr × (0 < l.row-iterator.left) × (l.row-iterator.rdr.config ≡ default_config)
    × (left : List ℕ) × (source_of (λ s. Some s.now) l.row-iterator.rdr ≡ Some left)
    × Reached default_config st.StartRecord (strip_bom l.fn.bytes) (map fields_of l.records.items) l.row-iterator.rdr.state left

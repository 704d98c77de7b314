use Rattle.csv.specs.Reading.{default_config, strip_bom}
use Rattle.imports.proofs.LaterRecords.{decided}
use Rattle.imports.specs.File.{count_row, is_counts_header, is_setup_header, sheet_row}
use Rattle.csv.specs.declared.parser.State.TheVariants as st
use Rattle.imports.proofs.law.first_records_decide.Goals as goal

pub returns-clause-setups : goal.returns-clause-setups
returns-clause-setups c = λ bytes n fits. decided is_setup_header sheet_row default_config st.StartRecord (strip_bom bytes) n fits

pub returns-clause-counts : goal.returns-clause-counts
returns-clause-counts c = λ bytes n fits. decided is_counts_header count_row default_config st.StartRecord (strip_bom bytes) n fits

use Rattle.desk_types.proofs.Common.{rules}
use Rattle.line_reads.proofs.doubts.DoubtListCsvReportDoubt.write_row.Goals as goal

pub returns : goal.returns
returns c = λ text has. let written = c.write_fields.ensures text has in search rules

use Rattle.desk_types.proofs.Common.{map, take}
use Rattle.trace_reports.specs.Csv.{csv_text, HasWritten}
use Rattle.trace_reports.proofs.report.csv_text.Given as goal

abbrev pub invariant-loop-row : goal.invariant-loop-row
invariant-loop-row g l = HasWritten l.writer (csv_text (g.R.CsvReport.header l.report) (map (g.R.CsvReport.fields l.report) (take l.row-index l.rows)))

use Rattle.desk_types.proofs.Common.{map, subst, sym, take}
use Rattle.trace_reports.{proofs.NextRecord.text-next, specs.Csv.csv_text, specs.Csv.HasWritten}
use Rattle.trace_reports.proofs.report.csv_text.Goals as goal

pub loop-row-preserved : goal.loop-row-preserved
loop-row-preserved g c =
    let text = csv_text (g.R.CsvReport.header c.args.report.now) (map (g.R.CsvReport.fields c.args.report.now) (take c.loop-row.row-index c.args.rows.now)) in
    let more = text-next (g.R.CsvReport.header c.args.report.now) (g.R.CsvReport.fields c.args.report.now) c.args.rows.now c.loop-row.row-index c.row-item.result c.loop-row-test.true c.row-item.is in
    subst (HasWritten c.write_row.new.writer) (sym more) (c.in_ok-write_row.ensures text c.loop-row.invariant)

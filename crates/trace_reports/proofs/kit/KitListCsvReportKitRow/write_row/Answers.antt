use Rattle.desk_types.proofs.Common.{rules}
use Rattle.trace_reports.proofs.kit.KitListCsvReportKitRow.write_row.Goals as goal

pub returns-in-Short : goal.returns-in-Short
returns-in-Short c = λ text has. let written = c.write_fields-in-Short.ensures text has in search rules

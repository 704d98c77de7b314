use Rattle.desk_types.proofs.Common.{map}
use Rattle.trace_reports.proofs.FieldsOfRecords.{board-whole, lot-whole, overdue-whole}
use Rattle.trace_reports.specs.Traces.{board_columns, board_header, board_rows, lot_columns, lot_header}
use Rattle.trace_reports.specs.Traces.{lot_rows, overdue_header, overdue_row, project}
use Rattle.trace_reports.proofs.text_laws.reports_read_back.Goals as goal

pub returns-clause-board : goal.returns-clause-board
returns-clause-board c = λ detail pieces. c.texts_read_back.ensures (project (board_columns detail) board_header) (board_rows detail pieces) (board-whole detail pieces)

pub returns-clause-lot : goal.returns-clause-lot
returns-clause-lot c = λ detail pieces. c.texts_read_back.ensures (project (lot_columns detail) lot_header) (lot_rows detail pieces) (lot-whole detail pieces)

pub returns-clause-overdue : goal.returns-clause-overdue
returns-clause-overdue c = λ pieces. c.texts_read_back.ensures overdue_header (map overdue_row pieces) (overdue-whole pieces)

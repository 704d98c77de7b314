-- The reports of the gateway.
use Rattle.std.specs.Prelude.{Some}
use Rattle.gateway_http.specs.Requests.{Reports}
use Rattle.gateway_http.specs.declared.asked.Report.TheVariants.{BoardTrace, LotTrace, ReelCard, SlotList, KitList, OverdueList}
use Rattle.trace_reports.specs.Card.{reel_card}
use Rattle.trace_reports.specs.Kit.{kit_list}
use Rattle.trace_reports.specs.Slots.{slot_list}
use Rattle.trace_reports.specs.Reports.{board_trace, lot_trace, overdue_list}

-- The text of each report on a history, if there is one. The overdue list always exists.
abbrev pub report_of : Reports
report_of (BoardTrace board detail) H = board_trace detail H board
report_of (LotTrace lot detail) H = lot_trace detail H lot
report_of (ReelCard reel) H = reel_card H reel
report_of (SlotList machine) H = slot_list H machine
report_of (KitList product machine boards) H = kit_list H product machine boards
report_of OverdueList H = Some (overdue_list H)

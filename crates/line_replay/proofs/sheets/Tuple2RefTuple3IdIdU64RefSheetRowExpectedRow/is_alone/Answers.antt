use Rattle.desk_types.proofs.Common.{IfOk-weaker}
use Rattle.line_replay.proofs.Texts.{sheet_row_alone}
use Rattle.line_replay.proofs.sheets.Tuple2RefTuple3IdIdU64RefSheetRowExpectedRow.is_alone.Goals as goal

pub returns-clause-found : goal.returns-clause-found
returns-clause-found g c clean =
    let shown = rw (c.text.ensures, c.text-2.ensures, c.in_ok-int.ensures, c.text-3.ensures, c.text-4.ensures, c.in_ok-int-2.ensures, c.text-5.ensures, c.text-6.ensures, c.as_slice-2.ensures.value, c.in_ok-designators.ensures, c.as_slice.ensures.value) at (c.shows_only.ensures.shown clean) in
    IfOk-weaker c.shows_only.result _ _ (λ b h. sheet_row_alone g.S.Store c.args.conn.now _ b c.args.self.0.now.0 c.args.self.0.now.1 c.args.self.0.now.2 h) shown

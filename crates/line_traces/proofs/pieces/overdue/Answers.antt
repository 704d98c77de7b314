use Rattle.desk_types.proofs.Common.{IfOk-weaker, overdue_of}
use Rattle.line_tables.proofs.Common.{state}
use Rattle.line_traces.proofs.{FoundPieces.finds-overdue, TwoCalls.pieces-told}
use Rattle.line_traces.proofs.pieces.overdue.Goals as goal

pub returns-clause-pieces : goal.returns-clause-pieces
returns-clause-pieces g c clean =
    let shown = finds-overdue g.S.Store c.args.conn.now _ (c.in_ok-rows.ensures.shown clean) in
    IfOk-weaker c.pieces.result _ _ (λ pieces is. pieces-told overdue_of (state g.S.Store c.args.conn.now) _ pieces shown is) (rw c.as_slice.ensures.value at c.pieces.ensures)

use Rattle.desk_types.proofs.Common.{IfOk-weaker, placements_of}
use Rattle.line_tables.proofs.Common.{state}
use Rattle.line_traces.proofs.{FoundPieces.finds-placed, TwoCalls.pieces-told}
use Rattle.line_traces.proofs.pieces.placed_rows.Goals as goal

pub returns-clause-pieces : goal.returns-clause-pieces
returns-clause-pieces g c clean =
    let shown = finds-placed g.S.Store c.args.conn.now _ (c.in_ok-rows.ensures.shown clean) in
    IfOk-weaker c.pieces.result _ _
    (λ pieces is. pieces-told placements_of (state g.S.Store c.args.conn.now) _ pieces shown is)
    (rw c.as_slice.ensures.value at c.pieces.ensures)

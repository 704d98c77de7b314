use Rattle.desk_types.proofs.Common.{IfOk-weaker}
use Rattle.line_tables.proofs.Common.{state}
use Rattle.line_traces.proofs.{FoundPieces.finds-of_lot, TwoCalls.pieces-told}
use Rattle.line_traces.specs.Pieces.{pieces_of_lot}
use Rattle.line_traces.proofs.pieces.lot_pieces.Goals as goal

pub returns-clause-pieces : goal.returns-clause-pieces
returns-clause-pieces g c clean =
    let shown = finds-of_lot g.S.Store c.args.conn.now _ c.args.lot.now (rw c.as_bytes.ensures.value at (c.in_ok-rows.ensures.shown clean)) in
    IfOk-weaker c.pieces.result _ _ (λ pieces is. pieces-told (λ H. pieces_of_lot H c.args.lot.now) (state g.S.Store c.args.conn.now) _ pieces shown is) (rw c.as_slice.ensures.value at c.pieces.ensures)

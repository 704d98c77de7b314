use Rattle.desk_types.proofs.Common.{IfOk-weaker}
use Rattle.line_tables.proofs.Common.{state}
use Rattle.line_traces.{proofs.FoundPieces.finds-on, proofs.TwoCalls.pieces-told, specs.Pieces.pieces_on}
use Rattle.line_traces.proofs.pieces.board_pieces.Goals as goal

pub returns-clause-pieces : goal.returns-clause-pieces
returns-clause-pieces g c clean =
    let shown = finds-on g.S.Store c.args.conn.now _ c.args.board.now (rw c.as_bytes.ensures.value at (c.in_ok-rows.ensures.shown clean)) in
    IfOk-weaker c.pieces.result _ _ (λ pieces is. pieces-told (λ H. pieces_on H c.args.board.now) (state g.S.Store c.args.conn.now) _ pieces shown is) (rw c.as_slice.ensures.value at c.pieces.ensures)

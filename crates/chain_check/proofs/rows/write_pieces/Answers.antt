use Rattle.desk_types.proofs.Common.{◌++◌, List, map, subst, take, take_all}
use Rattle.desk_laws.proofs.Common.{Placement}
use Rattle.chain_check.{proofs.WrittenRows.row-next, specs.Rows.piece_row, specs.Rows.rows_text}
use Rattle.trace_reports.specs.Csv.{HasWritten}
use Rattle.chain_check.proofs.rows.write_pieces.Goals as goal

pub loop-piece-preserved : goal.loop-piece-preserved
loop-piece-preserved c text written =
    let path = c.args.path.now in
    let pieces = c.args.pieces.now in
    let i = c.loop-piece.piece-index in
    let before = text ++ rows_text (map (piece_row path) (take i pieces)) in
    subst (HasWritten c.write_piece.new.writer) (row-next (piece_row path) pieces i c.piece-item.result text c.loop-piece-test.true c.piece-item.is)
    (c.in_ok-write_piece.ensures before (c.loop-piece.invariant text written))

pub returns : goal.returns
returns c text written =
    subst (λ (pieces : List Placement). HasWritten c.loop-piece.writer (text ++ rows_text (map (piece_row c.args.path.now) pieces)))
    (take_all c.loop-piece.piece-index c.args.pieces.now c.loop-piece-test.false) (c.loop-piece.invariant text written)

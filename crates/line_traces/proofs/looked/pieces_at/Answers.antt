use Rattle.desk_types.proofs.Common.{arith, map, Some}
use Rattle.line_tables.proofs.Common.{HasCleanDisk, state}
use Rattle.line_tables.{proofs.Frames.reads_then, proofs.Keeps.reads_before}
use Rattle.line_traces.{proofs.LookedPieces.run-added, specs.Pieces.piece_at}
use Rattle.line_traces.proofs.looked.pieces_at.Goals as goal

pub loop-left-preserved : goal.loop-left-preserved
loop-left-preserved g c =
    let old = state g.S.Store c.args.conn.now in
    let mid = state g.S.Store c.loop-left.conn in
    let new = state g.S.Store c.add_run.new.conn in
    let was = c.loop-left.invariant in
    let early : HasCleanDisk new → HasCleanDisk mid = λ clean. omega (arith, c.add_run.ensures.reads.survives.clean) in
    record {
      opened = λ clean. was.opened (early clean);
      told = λ clean schema H both.
          let added = reads_before old mid (was.reads.kept (early clean)) _ (c.in_ok-add_run.ensures.added clean) in
          run-added (piece_at H) (map Some c.loop-left.pieces.items) (map Some c.add_run.new.pieces.items) _ c.loop-left.left.now c.split_run.result.0.now c.split_run.result.1.now c.split_run.ensures.whole
          (added.are schema c.if-not-branch.false H both) (was.told (early clean) schema H both);
      reads = reads_then g.S.Store c.args.conn.now c.loop-left.conn c.add_run.new.conn was.reads c.add_run.ensures.reads;
    }

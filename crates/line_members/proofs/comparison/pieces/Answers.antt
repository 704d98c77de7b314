use Rattle.desk_types.proofs.Common.{arith}
use Rattle.line_members.proofs.Pieces.{more, no_more}
use Rattle.line_members.proofs.comparison.pieces.Goals as goal
use Rattle.line_members.proofs.comparison.pieces.Goals.{then-i-reels+in_ok-add, else-i-reels}

pub loop-i-preserved : goal.loop-i-preserved
loop-i-preserved c = elim c.if-i-reels.branch [
  | then-i-reels+in_ok-add w ↦
      let inside = w.if-i-reels.true in
      let pushed = w.in_ok-add.ensures in
      let piece = w.piece_of.ensures in
      let found = w.found-is in
      more c.args.takes.now c.args.reels.now c.loop-i.i w.index-takes-i.result w.index-reels-i.result
      c.loop-i.found.items c.if-i-reels.found.items (omega arith) w.index-takes-i.is (omega (arith, inside))
      w.index-reels-i.is (cc) c.loop-i.invariant
  | else-i-reels w ↦
      let over = w.if-i-reels.false in
      let found = w.found-is in
      no_more c.args.takes.now c.args.reels.now c.loop-i.i c.loop-i.found.items c.if-i-reels.found.items
      (omega (arith, over)) (cc) c.loop-i.invariant
]

use Rattle.desk_types.proofs.Common.{left_of, length, reverse}
use Rattle.look_back.proofs.ReelsLater.{Going}
use Rattle.look_back.proofs.pieces.left_of.Given as goal

abbrev pub invariant-loop-entry : goal.invariant-loop-entry
invariant-loop-entry l = Going (reverse l.rest) (reverse l.kept) l.gone (left_of (reverse l.entries) l.reel) l.reel

abbrev pub decreases-loop-entry : goal.decreases-loop-entry
decreases-loop-entry l = length l.rest

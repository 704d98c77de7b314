use Rattle.desk_types.proofs.Common.{◌-◌, ◌^◌, ◌≡◌, min, take}
use Rattle.look_back.specs.Kept.{pieces_taken}
use Rattle.look_back.proofs.pieces.pieces_taken.Given as goal

abbrev pub invariant-loop-take : goal.invariant-loop-take
invariant-loop-take l = l.pieces ≡ min (pieces_taken (take l.take-index l.takes) l.reel) (2 ^ 64 - 1)

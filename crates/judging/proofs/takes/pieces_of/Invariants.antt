use Rattle.desk_types.proofs.Common.{◌-◌, ◌^◌, ◌≡◌, min, pieces_of, take}
use Rattle.judging.proofs.takes.pieces_of.Given as goal

abbrev pub invariant-loop-pick : goal.invariant-loop-pick
invariant-loop-pick l = l.pieces ≡ min (pieces_of (take l.pick-index l.picks)) (2 ^ 64 - 1)

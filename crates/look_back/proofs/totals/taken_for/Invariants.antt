use Rattle.desk_types.proofs.Common.{◌-◌, ◌^◌, ◌≡◌, min, take}
use Rattle.look_back.specs.Totals.{taken_for}
use Rattle.look_back.proofs.totals.taken_for.Given as goal

abbrev pub invariant-loop-take : goal.invariant-loop-take
invariant-loop-take l = l.pieces ≡ min (taken_for l.usage (take l.take-index l.takes) l.reel) (2 ^ 64 - 1)

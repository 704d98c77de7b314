use Rattle.desk_types.proofs.Common.{◌-◌, ◌^◌, ◌≡◌, min, take}
use Rattle.look_back.specs.Totals.{taken_for}
use Rattle.std.proofs.Common.{sum_by}
use Rattle.look_back.proofs.totals.total.Given as goal

abbrev pub invariant-loop-last : goal.invariant-loop-last
invariant-loop-last l = l.pieces ≡ min (sum_by (λ takes. taken_for l.usage takes l.reel) (take l.last-index l.takes)) (2 ^ 64 - 1)

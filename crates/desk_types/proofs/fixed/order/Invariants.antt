use Rattle.desk_types.proofs.Common.{◌-◌, ◌≡◌, ◌≤◌, drop, length, nat_cmp, slice_cmp}
use Rattle.std.proofs.Common.{◌%◌}
use Rattle.desk_types.proofs.fixed.order.Given as goal

-- The words so far are equal, so the remaining bytes decide the order.
abbrev pub invariant-loop-at : goal.invariant-loop-at
invariant-loop-at l =
    record {
      whole : l.at % 8 ≡ 0;
      inside : l.at ≤ length l.a;
      rest : slice_cmp nat_cmp l.a l.b ≡ slice_cmp nat_cmp (drop l.at l.a) (drop l.at l.b);
    }

abbrev pub decreases-loop-at : goal.decreases-loop-at
decreases-loop-at l = length l.a - l.at

use Rattle.desk_types.proofs.Common.{◌==◌, ◌≡◌, false, Name}
use Rattle.feeder_state.specs.{Resting.rests_at, Rows.left_at}
use Rattle.feeder_state.proofs.resting.end_each.Given as goal

-- Reels with pieces left are unchanged.
abbrev pub invariant-loop-take : goal.invariant-loop-take
invariant-loop-take l = (r : Name) → (left_at l.rows r == 0) ≡ false → rests_at l.rows l.resting r ≡ rests_at l.rows l.initial.resting r

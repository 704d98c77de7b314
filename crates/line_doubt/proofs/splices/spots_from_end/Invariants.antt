use Rattle.desk_types.proofs.Common.{◌≡◌, map, take, ℕ}
use Rattle.desk_types.specs.declared.placement.Placement.{Placement}
use Rattle.line_doubt.specs.Runs.{spot_from_end}
use Rattle.line_doubt.proofs.splices.spots_from_end.Given as goal

-- The pieces so far.
abbrev pub invariant-loop-i : goal.invariant-loop-i
invariant-loop-i l = (r : Placement → ℕ) → l.restarted ≡ map r l.placed
    → l.spots.items ≡ map (λ p. spot_from_end l.commands p (r p)) (take l.i l.placed)

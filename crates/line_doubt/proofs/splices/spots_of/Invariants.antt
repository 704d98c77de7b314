use Rattle.desk_types.proofs.Common.{◌≡◌, map, take, ℕ}
use Rattle.desk_types.specs.declared.placement.Placement.{Placement}
use Rattle.line_doubt.specs.Runs.{spot_of}
use Rattle.line_doubt.proofs.splices.spots_of.Given as goal

-- The pieces so far.
abbrev pub invariant-loop-i : goal.invariant-loop-i
invariant-loop-i l = (r : Placement → ℕ) → l.restarted ≡ map r l.placed
    → l.spots.items ≡ map (λ p. spot_of p (r p)) (take l.i l.placed)

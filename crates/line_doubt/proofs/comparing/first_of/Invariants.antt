use Rattle.desk_types.proofs.Common.{◌≡◌, List, map, Option, option_or, take, ℕ}
use Rattle.desk_types.specs.declared.placement.Placement.{Placement}
use Rattle.line_doubt.proofs.comparing.first_of.Given as goal

-- The places so far are joined.
abbrev pub invariant-loop-i : goal.invariant-loop-i
invariant-loop-i l = (f g : Placement → Option ℕ) (placed : List Placement) → l.some ≡ map f placed
    → l.others ≡ map g placed → l.found.items ≡ map (λ p. option_or (f p) (g p)) (take l.i placed)

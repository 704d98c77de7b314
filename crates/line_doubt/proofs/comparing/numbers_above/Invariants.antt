use Rattle.desk_types.proofs.Common.{◌≡◌, List, map, Option, take, ℕ}
use Rattle.desk_types.specs.declared.placement.Placement.{Placement}
use Rattle.line_doubt.specs.declared.mark.Mark.{Mark}
use Rattle.line_doubt.specs.Marks.{number_above}
use Rattle.line_doubt.proofs.comparing.numbers_above.Given as goal

-- The places so far are compared.
abbrev pub invariant-loop-i : goal.invariant-loop-i
invariant-loop-i l = (f : Placement → Option Mark) (g : Placement → ℕ) (placed : List Placement)
    → l.marks ≡ map f placed → l.floors ≡ map g placed
    → l.found.items ≡ map (λ p. number_above (f p) (g p)) (take l.i placed)

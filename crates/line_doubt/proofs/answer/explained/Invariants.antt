use Rattle.desk_types.proofs.Common.{◌≡◌, Bool, filter_map, map, Option, take, ℕ}
use Rattle.desk_types.specs.declared.placement.Placement.{Placement}
use Rattle.line_doubt.specs.Reasons.{doubt_of, first_reason}
use Rattle.line_doubt.proofs.answer.explained.Given as goal

-- The pieces so far are kept with their reasons.
abbrev pub invariant-loop-i : goal.invariant-loop-i
invariant-loop-i l = (f g h : Placement → Option ℕ) (k : Placement → Bool) → l.entries ≡ map f l.placed
    → l.boundaries ≡ map g l.placed → l.late ≡ map h l.placed → l.near ≡ map k l.placed → l.found.items
    ≡ filter_map (λ p. doubt_of p (first_reason (f p) (g p) (h p) (k p))) (take l.i l.placed)

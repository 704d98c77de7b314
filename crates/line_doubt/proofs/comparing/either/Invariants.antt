use Rattle.desk_types.proofs.Common.{◌≡◌, ◌||◌, Bool, length, List, map, take}
use Rattle.desk_types.specs.declared.placement.Placement.{Placement}
use Rattle.line_doubt.proofs.comparing.either.Given as goal

-- The places so far are joined.
abbrev pub invariant-loop-i : goal.invariant-loop-i
invariant-loop-i l = record {
  each : length l.found.items ≡ l.i;
  flags : (f g : Placement → Bool) (placed : List Placement) → l.some ≡ map f placed
      → l.others ≡ map g placed → l.found.items ≡ map (λ p. f p || g p) (take l.i placed);
}

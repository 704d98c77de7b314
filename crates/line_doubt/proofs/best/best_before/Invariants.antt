use Rattle.desk_types.proofs.Common.{◌≡◌, ◌≤◌, drop, length, map, take, ℕ}
use Rattle.line_doubt.specs.Marks.{AreTaken, AsksRise, best_before}
use Rattle.line_doubt.proofs.best.best_before.Given as goal

-- The questions so far are answered, and the marks before the last one are taken in.
abbrev pub invariant-loop-ask : goal.invariant-loop-ask
invariant-loop-ask l = (l.at ≤ length l.marks)
    × (l.found.items ≡ map (best_before l.marks) (take l.ask-index l.asks))
    × ((to : ℕ) × AreTaken l.marks to l.at l.best × AsksRise to (drop l.ask-index l.asks))

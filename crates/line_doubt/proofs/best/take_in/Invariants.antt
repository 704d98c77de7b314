use Rattle.desk_types.proofs.Common.{◌≤◌, ℕ}
use Rattle.line_doubt.specs.Marks.{AreTaken}
use Rattle.line_doubt.proofs.Taking.{Going}
use Rattle.line_doubt.proofs.best.take_in.Given as goal

-- The marks so far are taken in, and all of them are before the place.
abbrev pub invariant-loop-at : goal.invariant-loop-at
invariant-loop-at l = (before : ℕ) → before ≤ l.fn.to → AreTaken l.fn.marks before l.fn.from l.fn.best
    → Going l.fn.marks l.fn.to l.at l.best

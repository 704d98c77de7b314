use Rattle.desk_types.proofs.Common.{◌++◌, ◌≡◌, drop}
use Rattle.line_members.specs.Comparison.{pieces}
use Rattle.line_members.proofs.comparison.pieces.Given as goal

-- The pieces so far are found, and those of the other takes are missing.
abbrev pub invariant-loop-i : goal.invariant-loop-i
invariant-loop-i l = pieces l.takes l.reels ≡ l.found.items ++ pieces (drop l.i l.takes) (drop l.i l.reels)

use Rattle.desk_types.proofs.Common.{◌≡◌, ◌||◌, drop, None}
use Rattle.line_members.specs.Comparison.{is_behind}
use Rattle.line_members.proofs.comparison.is_behind.Given as goal

-- The other reels are missing.
abbrev pub invariant-loop-reel : goal.invariant-loop-reel
invariant-loop-reel l = is_behind None l.tape l.a l.b
    ≡ (l.found || is_behind l.before (drop l.reel-index l.tape) l.a l.b)

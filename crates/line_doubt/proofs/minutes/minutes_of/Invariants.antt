use Rattle.desk_types.proofs.Common.{◌≡◌, ◌≤◌, All, take}
use Rattle.desk_types.specs.declared.limits.TheConstants.{GREATEST_MINUTE}
use Rattle.line_doubt.specs.Late.{minutes_of}
use Rattle.line_doubt.proofs.minutes.minutes_of.Given as goal

-- The minutes so far, all in range.
abbrev pub invariant-loop-i : goal.invariant-loop-i
invariant-loop-i l = (l.minutes.items ≡ minutes_of (take l.i l.commands))
    × All (λ m. m ≤ GREATEST_MINUTE) l.minutes.items

use Rattle.desk_types.proofs.Common.{◌-◌, ◌≡◌, map, take}
use Rattle.desk_types.specs.declared.limits.TheConstants.{GREATEST_MINUTE}
use Rattle.line_doubt.proofs.minutes.minutes_left.Given as goal

-- What is left of the minutes so far.
abbrev pub invariant-loop-minute : goal.invariant-loop-minute
invariant-loop-minute l = l.left.items ≡ map (λ m. GREATEST_MINUTE - m) (take l.minute-index l.minutes)

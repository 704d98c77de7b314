use Rattle.desk_types.proofs.Common.{◌+◌, ◌≡◌, digits_value, min, take}
use Rattle.desk_types.specs.declared.limits.TheConstants.{LONGEST_INPUT}
use Rattle.http_stream.proofs.head.capped_value.Given as goal

abbrev pub invariant-loop-digit : goal.invariant-loop-digit
invariant-loop-digit l = l.value ≡ min (digits_value 10 (take l.digit-index l.digits)) (LONGEST_INPUT + 1)

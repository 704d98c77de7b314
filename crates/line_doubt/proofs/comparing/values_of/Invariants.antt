use Rattle.desk_types.proofs.Common.{◌≡◌, map, take}
use Rattle.line_doubt.specs.Marks.{value_of}
use Rattle.line_doubt.proofs.comparing.values_of.Given as goal

-- The values of the marks so far.
abbrev pub invariant-loop-mark : goal.invariant-loop-mark
invariant-loop-mark l = l.values.items ≡ map value_of (take l.mark-index l.marks)

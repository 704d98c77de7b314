use Rattle.desk_types.proofs.Common.{◌≡◌, length, take}
use Rattle.line_doubt.specs.Late.{from_end}
use Rattle.line_doubt.specs.Sources.{marks_by}
use Rattle.line_doubt.proofs.handling.handled_from_end.Given as goal

-- The commands so far have marked.
abbrev pub invariant-loop-i : goal.invariant-loop-i
invariant-loop-i l = l.marks.items ≡ marks_by (from_end (length l.commands)) 1 (take l.i l.commands)

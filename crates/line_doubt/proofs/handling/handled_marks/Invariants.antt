use Rattle.desk_types.proofs.Common.{◌≡◌, take}
use Rattle.line_doubt.specs.Late.{handled_marks}
use Rattle.line_doubt.proofs.handling.handled_marks.Given as goal

-- The commands so far have marked.
abbrev pub invariant-loop-i : goal.invariant-loop-i
invariant-loop-i l = l.marks.items ≡ handled_marks (take l.i l.commands)

use Rattle.desk_types.proofs.Common.{◌≡◌, take}
use Rattle.line_doubt.specs.Sources.{unsettled_marks}
use Rattle.line_doubt.proofs.marking.unsettled_marks.Given as goal

-- The entries so far have marked.
abbrev pub invariant-loop-note : goal.invariant-loop-note
invariant-loop-note l = l.marks.items ≡ unsettled_marks (take l.note-index l.book)

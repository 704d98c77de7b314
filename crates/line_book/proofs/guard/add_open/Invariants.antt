use Rattle.desk_types.proofs.Common.{◌++◌, ◌≡◌, filter, map, take}
use Rattle.line_book.specs.declared.cause.Cause.TheVariants.{Open}
use Rattle.line_book.specs.declared.note.Note.{Note}
use Rattle.line_book.specs.Causes.{concerns}
use Rattle.line_book.proofs.guard.add_open.Given as goal

-- The causes of the entries so far are found.
abbrev pub invariant-loop-note : goal.invariant-loop-note
invariant-loop-note l = l.found.items
    ≡ l.fn.found.items ++ map Open (filter (λ (n : Note). concerns l.sheet l.machine n.matter)
    (take l.note-index l.notes))

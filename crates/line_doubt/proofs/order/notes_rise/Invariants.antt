use Rattle.desk_types.proofs.Common.{◌≡◌, drop}
use Rattle.line_book.specs.declared.note.Note.{Note}
use Rattle.line_doubt.specs.Order.{notes_rise, rises}
use Rattle.line_doubt.proofs.order.notes_rise.Given as goal

-- The entries so far rise, so the others decide.
abbrev pub invariant-loop-note : goal.invariant-loop-note
invariant-loop-note l =
    notes_rise l.commands l.book ≡ rises (λ (n : Note). n.after) l.last l.commands (drop l.note-index l.book)

use Rattle.desk_types.proofs.Common.{[], ◌+◌, ◌++◌, ◌∙◌, ◌∷◌, ap, arith, cond, take, take-next}
use Rattle.line_book.specs.declared.cause.Cause.TheVariants.{Open}
use Rattle.line_book.specs.declared.note.Note.{Note}
use Rattle.line_book.specs.Causes.{concerns}
use Rattle.line_book.proofs.Going.{open-step}
use Rattle.line_book.proofs.guard.add_open.Goals as goal

pub loop-note-preserved : goal.loop-note-preserved
loop-note-preserved c =
    let notes = c.args.notes.now in
    let i = c.loop-note.note-index in
    let n = c.note-item.result in
    open-step (λ (m : Note). concerns c.args.sheet.now c.args.machine.now m.matter) (take i notes) (take
    (i + 1) notes) n
    c.args.found.now.items c.loop-note.found.items c.add_if.new.found.items
    (take-next notes i n (omega arith) c.note-item.is) c.loop-note.invariant
    (c.in_ok-add_if.ensures ∙ ap (λ b. c.loop-note.found.items ++ cond b (Open n ∷ []) []) c.concerns.ensures)

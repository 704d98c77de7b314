use Rattle.desk_types.proofs.Common.{◌∙◌, ◌≡◌, ap, Bool, cond, filter, List, list_any, sym}
use Rattle.line_book.specs.declared.note.Note.{Note}
use Rattle.line_book.specs.Book.{is_fault, is_open}
use Rattle.line_book.specs.Undecided.{repeats, undecided}
use Rattle.line_book.proofs.guard.Guard.is_known.Goals.{else-is_fault, then-is_fault}
use Rattle.line_book.proofs.guard.Guard.is_known.Goals as goal

pub returns : goal.returns
returns c = λ H B is.
    let n = c.args.refusal.now in
    let standing : Bool → List Note = λ b. cond b (filter (is_open H B) B) (undecided B) in
    c.has_repeat.ensures
    ∙ ap (list_any (repeats n)) (elim c.if-is_fault.branch as (λ _. c.if-is_fault.standing.now
    ≡ standing (is_fault n.matter)) [
      | then-is_fault w ↦ (ap (λ v. v.now) w.standing-is ∙ w.as_slice-standing.ensures.value ∙ is.open_notes
          ∙ sym (ap standing (sym c.is_fault.ensures ∙ w.if-is_fault.true)))
      | else-is_fault w ↦ (ap (λ v. v.now) w.standing-is ∙ w.as_slice-standing-else-is_fault.ensures.value
          ∙ is.undecided
          ∙ sym (ap standing (sym c.is_fault.ensures ∙ w.if-is_fault.false)))
    ])

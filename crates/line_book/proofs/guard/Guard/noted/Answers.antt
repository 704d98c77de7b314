use Rattle.desk_types.proofs.Common.{[], ◌++◌, ◌∙◌, ◌∷◌, ap, cond, filter, List, not, sym}
use Rattle.line_book.specs.declared.note.Note.{Note}
use Rattle.line_book.specs.Book.{decides, is_open}
use Rattle.line_book.specs.Holds.{held_after}
use Rattle.line_book.specs.Undecided.{undecided}
use Rattle.line_book.proofs.Growing.{hold-noted, open-noted, placed-noted, undecided-noted}
use Rattle.line_book.proofs.guard.Guard.noted.Goals as goal

pub returns : goal.returns
returns c = λ H B is next.
    let n = c.args.note.now in
    let left : List Note → List Note = filter (λ (m : Note). not (decides m.number n.matter)) in
    record {
      placed = placed-noted H B n is.placed next;
      running = is.running;
      tapes = is.tapes;
      setup = record {
        alternates = is.setup.alternates;
        holds = λ stock. c.in_ok-noted.ensures stock
            ∙ ap (held_after stock n.number n.matter) (is.setup.holds stock) ∙ sym (hold-noted B n stock);
      };
      open_notes = c.in_ok-keep.ensures
          ∙ ap (λ l. l ++ cond c.is_fault.result (n ∷ []) []) (c.decide.ensures ∙ ap left is.open_notes)
          ∙ ap (λ b. left (filter (is_open H B) B) ++ cond b (n ∷ []) []) c.is_fault.ensures
          ∙ sym (open-noted H B n is.placed next);
      undecided = c.in_ok-keep-2.ensures
          ∙ ap (λ l. l ++ cond c.needs_decision.result (n ∷ []) []) (c.decide-2.ensures ∙ ap left is.undecided)
          ∙ ap (λ b. left (undecided B) ++ cond b (n ∷ []) []) c.needs_decision.ensures
          ∙ sym (undecided-noted H B n is.placed next);
    }

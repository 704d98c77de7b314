use Rattle.desk_types.proofs.Common.{◌∙◌, ◌||◌, ap, filter, latest, not, sym, unwrap_or, work_by}
use Rattle.desk_types.specs.Setup.{allows}
use Rattle.desk_types.specs.Tape.{tape_after}
use Rattle.line_book.specs.Book.{closes}
use Rattle.line_book.proofs.Growing.{notes-next, placed-next, tape-next, work-over}
use Rattle.line_book.proofs.guard.Guard.accepted.Goals as goal

pub returns : goal.returns
returns c = λ H B is.
    let command = c.args.stamped.now.command in
    record {
      placed = placed-next H c.args.stamped.now B is.placed;
      running = λ machine.
          c.in_ok-note_running.ensures machine
          ∙ ap (unwrap_or (work_by machine command)) (is.running machine)
          ∙ work-over (work_by machine command) (latest (λ e. work_by machine e.stamped.command) H);
      tapes = λ machine slot.
          c.in_ok-note_tape.ensures machine slot ∙ ap (tape_after machine slot command) (is.tapes machine slot)
          ∙ sym (tape-next H c.args.stamped.now machine slot);
      setup = record {
        alternates = λ p q.
            c.in_ok-note_alternate.ensures p q ∙ ap (λ b. allows p q command || b) (is.setup.alternates p q);
        holds = is.setup.holds;
      };
      open_notes = c.close.ensures ∙ ap (filter (λ n. not (closes n.matter command))) is.open_notes
          ∙ sym (notes-next H c.args.stamped.now B is.placed);
      undecided = is.undecided;
    }

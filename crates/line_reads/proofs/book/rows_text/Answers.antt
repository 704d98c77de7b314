use Rattle.desk_types.proofs.Common.{◌≡◌, Err, History, IfOk, List, map, Ok, Result, subst, ℕ}
use Rattle.feeder_state.specs.declared.desk.StateDesk.{StateDesk}
use Rattle.line_answers.specs.Book.{book_text, written_row}
use Rattle.line_answers.specs.declared.book.Wanted.TheVariants.{After}
use Rattle.line_book.specs.{Book.Book, Guard.IsGuard}
use Rattle.line_file.specs.declared.store.Line.{Line}
use Rattle.line_reads.specs.Ends.{IsBookBy}
use Rattle.line_reads.proofs.book.rows_text.Goals as goal

book_by : {E : Type 0} (r : Result (List ℕ) E) (line : Line StateDesk)
    → ((H : History) (B : Book) → IsGuard H B line.lists.guard
    → IfOk r (λ text. text ≡ book_text H B (After 0) (map written_row line.rows.items))) → IfOk r (IsBookBy line)
book_by (Ok text) line is = is
book_by (Err e) line is = tt

pub returns : goal.returns
returns c = book_by c.book_text.result c.args.line.now (λ H B guard.
    subst (λ rows. IfOk c.book_text.result (λ text. text ≡ book_text H B (After 0) (map written_row rows)))
    c.as_slice.ensures.value
    (c.book_text.ensures H B (c.open_notes.ensures H B guard) (c.undecided.ensures H B guard)))

use Rattle.desk_types.proofs.Common.{[], ◌+◌, ◌-◌, ◌^◌, ◌≡◌, false, filter, if◌then◌else◌, List}
use Rattle.line_tables.proofs.Common.{has_number, HasCleanDisk, ReadsOnly, state}
use Rattle.line_book.specs.declared.note.Note.{Note}
use Rattle.line_book_store.specs.{Checking.IsReadTo, Reading.ReadsShelf}
use Rattle.line_book_store.proofs.checking.check_book.Given as goal

abbrev pub invariant-loop-more : goal.invariant-loop-more
invariant-loop-more g l =
    let old = state g.S.Store l.fn.conn in
    let now = state g.S.Store l.conn in record {
      read : (notes : List Note) × IsReadTo l.commands (HasCleanDisk now) old notes l.reading;
      none : l.more ≡ false → HasCleanDisk now → ReadsShelf old (λ rows. filter (has_number (l.reading.entries + 1)) rows ≡ []);
      reads : ReadsOnly g.S.Store l.fn.conn l.conn;
    }

abbrev pub decreases-loop-more : goal.decreases-loop-more
decreases-loop-more g l = if l.more then 2 ^ 32 - l.reading.entries + 1 else 0

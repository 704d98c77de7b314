use Rattle.desk_types.proofs.Common.{[], ◌+◌, ◌-◌, ◌^◌, ◌≡◌, ◌≤◌, false, filter, if◌then◌else◌, IsTrue, List}
use Rattle.line_tables.proofs.Common.{has_number, HasCleanDisk}
use Rattle.line_book.specs.declared.note.Note.{Note}
use Rattle.line_book.specs.Guard.{IsGuard}
use Rattle.line_book_store.specs.{Checking.IsReadTo, Reading.ReadsShelf}
use Rattle.line_schema.specs.{Frames.ReadsStore, Stands.Kept, Stands.Stands, Stands.state_of}
use Rattle.book_store.specs.Restored.{history_until}
use Rattle.book_store.proofs.restoring.restore.Given as goal

abbrev pub invariant-loop-more : goal.invariant-loop-more
invariant-loop-more g l =
    let old = state_of g.S.Store l.fn.store in
    let now = state_of g.S.Store l.store in record {
      read : (notes : List Note) × IsReadTo l.commands (HasCleanDisk now) old notes l.reading
          × ((L : Kept) → Stands g.S.Store g.D.Desk.Stands l.fn.store L → HasCleanDisk now → IsTrue L.own
          → IsGuard (history_until l.reading.after L.history) notes l.guard);
      within : l.reading.after ≤ l.commands;
      none : l.more ≡ false → HasCleanDisk now → ReadsShelf old
          (λ rows. filter (has_number (l.reading.entries + 1)) rows ≡ []);
      reads : ReadsStore g.S.Store g.D.Desk.Stands l.fn.store l.store;
    }

abbrev pub decreases-loop-more : goal.decreases-loop-more
decreases-loop-more g l = if l.more then 2 ^ 32 - l.reading.entries + 1 else 0

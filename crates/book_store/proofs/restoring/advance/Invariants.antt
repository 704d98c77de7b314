use Rattle.desk_types.proofs.Common.{◌≤◌, IsTrue, length}
use Rattle.line_tables.proofs.Common.{HasCleanDisk}
use Rattle.line_book.specs.{Book.Book, Guard.IsGuard}
use Rattle.line_schema.specs.{Frames.ReadsStore, Stands.Kept, Stands.Stands, Stands.state_of}
use Rattle.book_store.specs.Restored.{history_until}
use Rattle.book_store.proofs.restoring.advance.Given as goal

-- The commands so far are taken in.
abbrev pub invariant-loop-i : goal.invariant-loop-i
invariant-loop-i g l = record {
  guard : (L : Kept) → Stands g.S.Store g.D.Desk.Stands l.fn.store L → HasCleanDisk (state_of g.S.Store l.store)
      → IsTrue L.own
      → l.fn.from ≤ l.fn.to → l.fn.to ≤ length L.history → (B : Book) → IsGuard
      (history_until l.fn.from L.history) B l.fn.guard → IsGuard (history_until l.i L.history) B l.guard;
  reads : ReadsStore g.S.Store g.D.Desk.Stands l.fn.store l.store;
}

use Rattle.desk_types.proofs.Common.{◌++◌, drop, History, IfSome, take}
use Rattle.line_book.specs.{Book.Book, Guard.IsGuard}
use Rattle.book_store.specs.Accepted.{AreNextNotes}
use Rattle.book_store.proofs.store.accepting.take_all.Given as goal

-- The entries so far are taken in.
abbrev pub invariant-loop-note : goal.invariant-loop-note
invariant-loop-note l = (H : History) (B : Book) → IfSome l.fn.guard (IsGuard H B) → AreNextNotes H B l.notes
    → IfSome l.guard (IsGuard H (B ++ take l.note-index l.notes))
    × AreNextNotes H (B ++ take l.note-index l.notes) (drop l.note-index l.notes)

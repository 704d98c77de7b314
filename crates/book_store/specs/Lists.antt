-- A store with both lists.
use Rattle.std.specs.Prelude.{IfSome, IsTrue, List, length}
use Rattle.sqlite_trees.specs.declared.store.Store.{Ghosts}
use Rattle.sqlite.specs.State.{HasCleanDisk, State}
use Rattle.desk_types.specs.History.{Basis}
use Rattle.line_book.specs.declared.row.BookRow.{BookRow}
use Rattle.line_book.specs.Book.{Book}
use Rattle.line_book.specs.Guard.{IsGuard}
use Rattle.line_book.specs.Rows.{first_reading}
use Rattle.line_book_store.specs.Checking.{AreRead}
use Rattle.line_schema.specs.Book.{StandsWith}
use Rattle.line_schema.specs.Stands.{Kept, Stands, state_of}
use Rattle.book_store.specs.declared.store.BookStore.{BookStore}

-- Both lists: the history of accepted commands, and the book, as rows and as what they say.
pub record Lists : Type 0 where
  pub kept : Kept
  pub rows : List BookRow
  pub notes : Book

-- The store represents both lists: the desk and the committed tables are those of the history, the
-- committed book has these rows, which are read as these entries, and the guard is that of both, if
-- it is loaded.
pub record StandsFor {S D : Type 0} (g : Ghosts S) (Desks : D → Basis → Type 0)
    (store : BookStore S D) (L : Lists) : Type 0 where
  pub both : StandsWith g Desks store.store L.kept L.rows
  pub read : AreRead (first_reading (length L.kept.history)) L.rows L.notes store.reading
  pub guard : IfSome store.guard (IsGuard L.kept.history L.notes)

abbrev pub book_state : {S D : Type 0} → Ghosts S → BookStore S D → State
book_state g store = state_of g store.store

-- Some history for which the desk may answer. Each call needs one, and leaves one.
abbrev pub Serves : {S D : Type 0} → Ghosts S → (D → Basis → Type 0) → BookStore S D → Type 0
Serves g Desks store = (L : Kept) × Stands g Desks store.store L

-- A fact about all lists that a store represented, if its disk is still honest and its tables are
-- its own.
abbrev pub ForLists : {S D : Type 0} → Ghosts S → (D → Basis → Type 0)
    → BookStore S D → BookStore S D → (Lists → Type 0) → Type 0
ForLists g Desks old new Fact = (L : Lists) → StandsFor g Desks old L
    → HasCleanDisk (book_state g new) → IsTrue L.kept.own → Fact L

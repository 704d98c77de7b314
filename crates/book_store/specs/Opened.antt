-- A store whose book was opened.
use Rattle.std.specs.Prelude.{◌≡◌, ◌⊎◌, [], Bool, IsTrue, List, Err, Ok, OnOk, Result, length}
use Rattle.sqlite_trees.specs.declared.store.Store.{Ghosts}
use Rattle.sqlite.specs.Effect.{Database}
use Rattle.sqlite_trees.specs.Tree.{Trees}
use Rattle.sqlite.specs.State.{HasCleanDisk, State, Survives}
use Rattle.desk_types.specs.History.{Basis}
use Rattle.line_book.specs.declared.note.Note.{Note}
use Rattle.line_book.specs.declared.row.BookRow.{BookRow}
use Rattle.line_book.specs.Guard.{IsGuard}
use Rattle.line_book.specs.Rows.{first_reading}
use Rattle.line_book_store.specs.Book.{HoldsBook, IsAlone, Shelf, book_schema}
use Rattle.line_book_store.specs.Checking.{AreRead}
use Rattle.line_book_store.specs.Names.{has_book}
use Rattle.line_book_store.specs.declared.fault.BookFault.{BookFault}
use Rattle.line_schema.specs.declared.store.LineStore.{LineStore}
use Rattle.line_schema.specs.Book.{LeavesBook, StandsWith}
use Rattle.line_schema.specs.Stands.{Kept, state_of}
use Rattle.book_store.specs.declared.restoring.Restored.{Restored}
use Rattle.book_store.specs.declared.store.BookStore.{BookStore}
use Rattle.book_store.specs.Lists.{StandsFor, book_state}
use Rattle.book_store.specs.Restored.{IsWrong}

-- The book comes first behind the desk's tables.
abbrev pub HasShelf : Database → Type 0
HasShelf db = (shelf : Shelf) × (db.schema ≡ book_schema shelf)

-- The book is there, or there are no tables but the desk's.
abbrev pub HasPlace : Database → Type 0
HasPlace db = HasShelf db ⊎ IsAlone db

-- The file has the book or no table behind the desk's, by its name, columns and place.
abbrev pub IsNamed : State → Type 0
IsNamed old = IsTrue old.is_open → (has : Bool) × (has_book old.committed.schema.tables ≡ Ok has)

-- Another table is in the book's place, or the book has other columns.
abbrev pub IsMisplaced : State → BookFault → Type 0
IsMisplaced old fault = IsTrue old.is_open → has_book old.committed.schema.tables ≡ Err fault

-- What the file had, if the disk is honest.
abbrev pub IsFault : Kept → State → State → BookFault → Type 0
IsFault L old new fault =
    IsMisplaced old fault ⊎ (HasCleanDisk new → IsWrong (length L.history) old fault)

-- The store has the history and a book, if the disk is honest and the tables are its own. The guard
-- is that of both.
pub record KnowsBoth {S D : Type 0} (g : Ghosts S) (Desks : D → Basis → Type 0)
    (store : LineStore S D) (L : Kept) (r : Restored) : Type 0 where
  pub rows : List BookRow
  pub notes : List Note
  pub both : StandsWith g Desks store L rows
  pub read : AreRead (first_reading (length L.history)) rows notes r.reading
  pub guard : IsGuard L.history notes r.guard

abbrev pub Knows : {S D : Type 0} → Ghosts S → (D → Basis → Type 0) → LineStore S D → Kept
    → Restored → Type 0
Knows g Desks store L r =
    HasCleanDisk (state_of g store) → IsTrue L.own → KnowsBoth g Desks store L r

-- If the file had a book, these are its rows.
abbrev pub HadRows : Database → List BookRow → Type 0
HadRows db rows = HasShelf db → HoldsBook db rows

-- The same as `Knows`, if the book has its place in the file. A book that was there is the store's.
abbrev pub Finds : {S D : Type 0} → Ghosts S → (D → Basis → Type 0) → LineStore S D
    → LineStore S D → Kept → Restored → Type 0
Finds g Desks old new L r = HasPlace (state_of g old).committed → HasCleanDisk (state_of g new)
    → IsTrue L.own → (k : KnowsBoth g Desks new L r) × HadRows (state_of g old).committed k.rows

-- The file's tables have the book's name or none. If the disk is honest, the tables are the desk's
-- own and the book has its place, the store represents the history and the book of its file.
pub record Opens {S D : Type 0} (g : Ghosts S) (Desks : D → Basis → Type 0)
    (old : LineStore S D) (store : BookStore S D) (L : Kept) : Type 0 where
  pub named : IsNamed (state_of g old)
  pub lists : HasPlace (state_of g old).committed → HasCleanDisk (book_state g store)
      → IsTrue L.own → (rows : List BookRow) × (notes : List Note)
      × StandsFor g Desks store (record { kept = L; rows = rows; notes = notes })
      × HadRows (state_of g old).committed rows

-- A crash leaves what it could leave before or, in a file without a book, the history with an empty
-- book. Once such a file was opened, it leaves only both.
pub record LeavesOpened {A E : Type 0} (L : Kept) (old new : State) (result : Result A E)
    : Type 0 where
  pub survives : IsTrue L.own
      → Survives old new (λ trees. IsAlone old.committed × LeavesBook L [] trees)
  pub made : HasCleanDisk new → IsTrue L.own → IsAlone old.committed
      → OnOk result ((trees : Trees) → new.may_leave trees → LeavesBook L [] trees)

-- The state of the file that comes back.
abbrev pub opened_state : {S D : Type 0} → Ghosts S
    → Result (BookStore S D) (BookFault × LineStore S D) → State
opened_state g (Ok store) = book_state g store
opened_state g (Err e) = state_of g e.1

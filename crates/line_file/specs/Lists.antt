-- The two lists of a store, and why they can't be read.
use Rattle.std.specs.Prelude.{◌≡◌, ◌⊎◌, ℕ, [], true, false, Bool, IsTrue, List, Err, Ok, length, map}
use Rattle.sqlite.specs.Effect.{Database}
use Rattle.sqlite.specs.State.{HasCleanDisk, State}
use Rattle.line_book.specs.declared.note.Note.{Note}
use Rattle.line_book.specs.declared.row.BookRow.{BookRow}
use Rattle.line_book.specs.Guard.{IsGuard}
use Rattle.line_book.specs.Rows.{first_reading}
use Rattle.line_answers.specs.Book.{written_row}
use Rattle.line_book_store.specs.Book.{HoldsBook, IsAlone}
use Rattle.line_book_store.specs.Checking.{AreRead}
use Rattle.line_book_store.specs.Names.{has_book}
use Rattle.line_book_store.specs.declared.fault.BookFault.{BookFault}
use Rattle.line_book_store.specs.declared.fault.BookFault.TheVariants.{Unavailable}
use Rattle.line_schema.specs.Stands.{Kept}
use Rattle.book_store.specs.declared.restoring.Restored.{Restored}
use Rattle.line_file.specs.declared.lists.Found.{Found}
use Rattle.book_store.specs.Opened.{HasPlace, HasShelf}
use Rattle.book_store.specs.Restored.{IsRestored, IsWrong}

-- The disk is honest, and the connection open.
abbrev pub IsSound : State → Type 0
IsSound s = HasCleanDisk s × IsTrue s.is_open

-- The book has these rows, or there is none.
abbrev pub HoldsRows : Database → List BookRow → Type 0
HoldsRows db rows = HoldsBook db rows ⊎ (IsAlone db × (rows ≡ []))

-- The first table behind the desk's is the book, by its name and columns, or there is none.
abbrev pub IsNamed : Database → Type 0
IsNamed db = (has : Bool) × (has_book db.schema.tables ≡ Ok has)

-- The rows that are told are those of the book if they are asked for, else none.
abbrev pub AreTold : Bool → List BookRow → List BookRow → Type 0
AreTold true rows told = map written_row told ≡ map written_row rows
AreTold false rows told = told ≡ []

-- The lists of a file with a book were read, and its rows if they are asked for.
pub record ReadsBook (L : Kept) (with_rows : Bool) (Clean : Type 0) (old : State) (f : Found)
    : Type 0 where
  pub is : IsRestored L Clean old f.lists
  pub told : Clean → IsTrue L.own → IsTrue old.is_open → HasShelf old.committed
      → AreTold with_rows is.rows f.rows.items

-- The rows are read as entries of the history. If the state is sound, no other table is in the book's place, and they
-- are those of the committed book; if the tables are the store's own too, the guard is that of both lists.
pub record ReadsLists (L : Kept) (with_rows : Bool) (Sound : Type 0) (old : State) (f : Found)
    : Type 0 where
  pub rows : List BookRow
  pub notes : List Note
  pub read : AreRead (first_reading (length L.history)) rows notes f.lists.reading
  pub named : Sound → IsNamed old.committed
  pub book : Sound → HasPlace old.committed → HoldsRows old.committed rows
  pub guard : Sound → IsTrue L.own → IsGuard L.history notes f.lists.guard
  pub told : Sound → IsTrue L.own → HasPlace old.committed → AreTold with_rows rows f.rows.items

-- No entry was read, and the guard is that of the history.
abbrev pub ReadsHistory : Kept → Type 0 → Restored → Type 0
ReadsHistory L Sound r = (r.reading ≡ first_reading (length L.history))
    × (Sound → IsTrue L.own → IsGuard L.history [] r.guard)

-- Memory was refused or the database failed; or another table is in the book's place, or it has other columns; or the
-- book is there, and this is the first number whose entry is missing, can't be read, or can't follow those before it.
abbrev pub IsBookFault : ℕ → State → BookFault → Type 0
IsBookFault commands old fault = (fault ≡ Unavailable)
    ⊎ ((has_book old.committed.schema.tables ≡ Err fault)
    ⊎ ((has_book old.committed.schema.tables ≡ Ok true) × IsWrong commands old fault))

-- Entries that are read back.
use Rattle.std.specs.Prelude.{◌≡◌, ◌==◌, ◌<◌, ◌^◌, ◌&&◌, nat_lt, nat_le, ℕ, ◌+◌, Option, IsTrue, List, filter, find, option_map}
use Rattle.sqlite_value.specs.Order.{Row}
use Rattle.sqlite.specs.Effect.{Database}
use Rattle.sqlite.specs.State.{State}
use Rattle.line_book.specs.declared.row.BookRow.{BookRow}
use Rattle.line_book_store.specs.Book.{HoldsBook, Shelf, book_in, book_schema, entry_columns}

-- The connection was open, and this holds of the entries of the committed book.
pub record ReadsBook (old : State) (Is : List BookRow → Type 0) : Type 0 where
  pub was_open : IsTrue old.is_open
  pub are : (entries : List BookRow) → HoldsBook old.committed entries → Is entries

-- If the database has the book behind the desk's tables, this holds of the book's rows.
abbrev pub OnShelf : Database → (List Row → Type 0) → Type 0
OnShelf db Is = (shelf : Shelf) → db.schema ≡ book_schema shelf → Is (book_in shelf db)

-- The connection was open, and this holds of the rows of the committed book.
pub record ReadsShelf (old : State) (Is : List Row → Type 0) : Type 0 where
  pub was_open : IsTrue old.is_open
  pub are : OnShelf old.committed Is

-- The numbers are within the program's ranges.
abbrev pub HasNumbers : BookRow → Type 0
HasNumbers e = (e.number < 2 ^ 32) × (e.after < 2 ^ 32) × (e.of < 2 ^ 32)

-- The entry with this number.
abbrev pub entry_numbered : ℕ → List BookRow → Option BookRow
entry_numbered number entries = find (λ (e : BookRow). e.number == number) entries

abbrev pub entry_row : Option BookRow → Option Row
entry_row found = option_map entry_columns found

-- The entries with the numbers that follow this one, at most so many.
abbrev pub window : (number most : ℕ) → List BookRow → List BookRow
window number most entries = filter
    (λ (e : BookRow). nat_lt number e.number && nat_le e.number (number + most)) entries

-- The connection was open. If the committed contents have the book behind the desk's tables, it has
-- these entries.
pub record ReadsAll (old : State) (entries : List BookRow) : Type 0 where
  pub was_open : IsTrue old.is_open
  pub holds : (shelf : Shelf) → old.committed.schema ≡ book_schema shelf
      → HoldsBook old.committed entries

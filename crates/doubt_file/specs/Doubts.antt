-- The pieces in doubt by both lists of a store, or of a connection.
use Rattle.std.specs.Prelude.{◌≡◌, ℕ, IsTrue, List, length}
use Rattle.sqlite.specs.State.{State}
use Rattle.line_book.specs.declared.note.Note.{Note}
use Rattle.line_book.specs.declared.reading.Reading.{Reading}
use Rattle.line_book.specs.declared.row.BookRow.{BookRow}
use Rattle.line_book.specs.Book.{Book}
use Rattle.line_book.specs.Rows.{first_reading}
use Rattle.line_book_store.specs.Checking.{AreRead}
use Rattle.line_book_store.specs.Reading.{ReadsAll}
use Rattle.line_doubt.specs.declared.reason.Doubt.{Doubt}
use Rattle.line_doubt.specs.Reasons.{AreExplained}
use Rattle.line_file.specs.Lists.{HoldsRows, IsNamed}
use Rattle.line_replay.specs.Rows.{ledger_tables}
use Rattle.line_schema.specs.Stands.{Kept}
use Rattle.line_tables.specs.Calls.{Reads}
use Rattle.line_tables.specs.Line.{is_ours}
use Rattle.line_tables.specs.Rows.{Holds}
use Rattle.book_store.specs.Opened.{HasPlace}

-- The rows are read as these entries of the history. If the disk is honest, they are all rows of the committed book.
pub record AreEntries (L : Kept) (Clean : Type 0) (old : State) (notes : List Note) : Type 0 where
  pub rows : List BookRow
  pub read : (last : Reading) × AreRead (first_reading (length L.history)) rows notes last
  pub all : Clean → ReadsAll old rows

-- The rows are read as entries of the history. If the state is sound, no other table is in the book's place, and they
-- are those of the committed book; if the tables are the store's own too, the pieces are those in doubt by both lists.
pub record ReadsDoubts (L : Kept) (within : ℕ) (Sound : Type 0) (old : State) (found : List Doubt)
    : Type 0 where
  pub rows : List BookRow
  pub notes : Book
  pub read : (last : Reading) × AreRead (first_reading (length L.history)) rows notes last
  pub named : Sound → IsNamed old.committed
  pub book : Sound → HasPlace old.committed → HoldsRows old.committed rows
  pub explained : Sound → IsTrue L.own → AreExplained L.history notes within found

-- The same of some history, which the committed tables hold if the state is sound.
pub record FindsDoubts (within : ℕ) (Sound : Type 0) (old : State) (found : List Doubt)
    : Type 0 where
  pub L : Kept
  pub own : L.own ≡ is_ours old.committed.schema
  pub tables : Sound → Reads old (λ db. Holds db (ledger_tables L.greatest L.history))
  pub is : ReadsDoubts L within Sound old found

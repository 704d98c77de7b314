-- Both lists of a line, as its routes see them.
use Rattle.std.specs.Prelude.{◌≡◌, ◌+◌, ◌++◌, ◌∷◌, [], ℕ, IsTrue, List, None, Option, Some, length, map}
use Rattle.sqlite_trees.specs.declared.store.Store.{Ghosts}
use Rattle.desk_answers.specs.Ledger.{Ledger}
use Rattle.desk_types.specs.History.{Basis}
use Rattle.desk_types.specs.Id.{Name}
use Rattle.line_answers.specs.Book.{Written, written_row}
use Rattle.line_book.specs.declared.note.Matter.{Matter}
use Rattle.line_book.specs.declared.note.Note.{Note}
use Rattle.line_book.specs.Book.{Book}
use Rattle.line_book.specs.Rows.{kind_text}
use Rattle.line_entries.specs.declared.entry.Place.{Place}
use Rattle.line_entries.specs.declared.row.Sender.{Sender}
use Rattle.line_entries.specs.Columns.{columns_of, kind_of, of_number}
use Rattle.line_entries.specs.Rows.{note_at}
use Rattle.line_entries.specs.Told.{told_text}
use Rattle.book_store.specs.declared.store.BookStore.{BookStore}
use Rattle.line_schema.specs.Stands.{ledger}
use Rattle.book_store.specs.Noted.{nobody}
use Rattle.book_store.specs.Lists.{Lists, StandsFor}

-- The desk with its history of accepted commands, and the book: what its entries say, and how they
-- are written.
pub record Line : Type 0 where
  pub desk : Ledger
  pub notes : Book
  pub rows : List Written

-- ---- a store

abbrev pub line_of : Lists → Line
line_of L =
    record { desk = ledger L.kept; notes = L.notes; rows = map written_row L.rows }

-- The store represents these lists, in tables of its own.
pub record Represents {S D : Type 0} (g : Ghosts S) (Desks : D → Basis → Type 0)
    (store : BookStore S D) (line : Line) : Type 0 where
  pub lists : Lists
  pub stands : StandsFor g Desks store lists
  pub own : IsTrue lists.kept.own
  pub same : line ≡ line_of lists

-- ---- one entry more

-- A name, or nothing without one.
abbrev pub column_text : Option Name → List ℕ
column_text None = []
column_text (Some name) = name

-- The row of an entry, with the message's sender and its bytes.
abbrev pub written : Note → Sender → List ℕ → Written
written n sender told = record {
  number = n.number;
  after = n.after;
  kind = kind_text (kind_of n.matter);
  source = column_text sender.source;
  uid = column_text sender.uid;
  machine = column_text (columns_of n.matter).machine;
  slot = column_text (columns_of n.matter).slot;
  board = column_text (columns_of n.matter).board;
  reel = column_text (columns_of n.matter).reel;
  word = column_text (columns_of n.matter).word;
  of = of_number n.carries n.matter;
  told = told_text told;
}

-- The next entry: behind the others, at the end of the history.
abbrev pub next_place : Line → Place
next_place line =
    record { number = length line.notes + 1; after = length line.desk.history; carries = 0 }

abbrev pub with_entry : Line → Note → Sender → List ℕ → Line
with_entry line n sender told = record line {
  notes = line.notes ++ n ∷ [];
  rows = line.rows ++ written n sender told ∷ [];
}

-- ---- what somebody says

abbrev pub next_note : Line → Matter → Note
next_note line m = note_at (next_place line) m []

-- The book has one entry more: what somebody said with these words.
abbrev pub with_saying : Line → Matter → List ℕ → Line
with_saying line m told = with_entry line (next_note line m) nobody told

-- The book of a line: one more table behind the desk's tables, whose rows are only ever added.
use Rattle.std.specs.Prelude.{◌≡◌, refl, ◌&&◌, IsTrue, ℕ, pos, true, List, [], ◌∷◌, ◌++◌, map, length, codes, string_bytes, ◌+◌, ⊤}
use Rattle.sqlite.specs.declared.types.Value.TheVariants.{Int, Text, Null}
use Rattle.std.specs.List.Sorted.{IsPermutation}
use Rattle.sqlite_value.specs.Order.{Row, column}
use Rattle.sqlite.specs.Effect.{Database, IsDatabase}
use Rattle.sqlite.specs.Schema.{Schema}
use Rattle.sqlite.specs.State.{State}
use Rattle.sqlite.specs.Table.{Table}
use Rattle.sqlite_schema.specs.declared.schema.Index.{Index}
use Rattle.sqlite_schema.specs.declared.schema.View.{View}
use Rattle.sqlite_trees.specs.Tree.{Trees}
use Rattle.sqlite_catalog.specs.Change.{KeepsRows}
use Rattle.desk_types.specs.declared.rules.Rules.TheVariants.{Two}
use Rattle.line_tables.specs.Line.{Layout, Others, are_quiet, alone, by_number, first_behind, no_schema, number, schema_of, table_of, text}
use Rattle.line_tables.specs.Line.Layout.{Indexed, Plain}
use Rattle.line_tables.specs.Rows.{Tables, Holds, blank}
use Rattle.line_book.specs.declared.row.BookRow.{BookRow}

-- CREATE TABLE book, with this tree.
abbrev pub book_at : ℕ → Table
book_at tree = by_number (table_of (codes "book") tree
    (number (codes "n") ∷ number (codes "after") ∷ text (codes "kind") ∷ text (codes "source")
    ∷ text (codes "uid") ∷ text (codes "machine") ∷ text (codes "slot") ∷ text (codes "board")
    ∷ text (codes "reel") ∷ text (codes "word") ∷ number (codes "of") ∷ text (codes "told") ∷ []))

-- Tables, indexes and views behind the book, whose trees come behind its own.
pub record Behind (tree : ℕ) : Type 0 where
  pub tables : List Table
  pub indexes : List Index
  pub views : List View
  pub quiet : are_quiet tree (book_at tree ∷ tables) ≡ true
  pub past : are_quiet (tree + 1) tables ≡ true

-- The book stands first behind the desk's tables, in either layout.
pub data Shelf : Type 0 where
  IndexedShelf : Behind 23 → Shelf
  PlainShelf : Behind 21 → Shelf

abbrev pub others_of : {tree : ℕ} → Behind tree → Others tree
others_of {tree} more = record {
  tables = book_at tree ∷ more.tables;
  indexes = more.indexes;
  views = more.views;
  quiet = more.quiet;
}

abbrev pub layout_of : Shelf → Layout
layout_of (IndexedShelf more) = Indexed (others_of more)
layout_of (PlainShelf more) = Plain (others_of more)

abbrev pub book_tree : Shelf → ℕ
book_tree (IndexedShelf more) = 23
book_tree (PlainShelf more) = 21

abbrev pub book_of : Shelf → Table
book_of shelf = book_at (book_tree shelf)

-- The tables behind the book.
abbrev pub behind : Shelf → List Table
behind (IndexedShelf more) = more.tables
behind (PlainShelf more) = more.tables

abbrev pub book_schema : Shelf → Schema
book_schema shelf = schema_of Two (layout_of shelf)

-- The columns of an entry, in their order.
abbrev pub entry_columns : BookRow → Row
entry_columns e = Int (pos e.number) ∷ Int (pos e.after) ∷ Text (string_bytes e.kind)
    ∷ Text (string_bytes e.source) ∷ Text (string_bytes e.uid) ∷ Text (string_bytes e.machine)
    ∷ Text (string_bytes e.slot) ∷ Text (string_bytes e.board) ∷ Text (string_bytes e.reel)
    ∷ Text (string_bytes e.word) ∷ Int (pos e.of) ∷ Text (string_bytes e.told) ∷ []

-- The row as it is stored: its rowid, and no value in that column's place.
abbrev pub stored : BookRow → Row
stored e = Int (pos e.number) ∷ Null ∷ Int (pos e.after) ∷ Text (string_bytes e.kind)
    ∷ Text (string_bytes e.source) ∷ Text (string_bytes e.uid) ∷ Text (string_bytes e.machine)
    ∷ Text (string_bytes e.slot) ∷ Text (string_bytes e.board) ∷ Text (string_bytes e.reel)
    ∷ Text (string_bytes e.word) ∷ Int (pos e.of) ∷ Text (string_bytes e.told) ∷ []

-- The columns of a stored row, without the place of the rowid.
abbrev pub shown_columns : Row → Row
shown_columns r = column r 0 ∷ column r 2 ∷ column r 3 ∷ column r 4 ∷ column r 5 ∷ column r 6
    ∷ column r 7 ∷ column r 8 ∷ column r 9 ∷ column r 10 ∷ column r 11 ∷ column r 12 ∷ []

abbrev pub book_in : Shelf → Database → List Row
book_in shelf db = map shown_columns (db.trees (book_tree shelf))

-- The numbers go on from this one, without gaps.
abbrev pub GoOn : ℕ → List BookRow → Type 0
GoOn n [] = ⊤
GoOn n (e ∷ more) = (e.number ≡ n + 1) × GoOn (n + 1) more

-- The database has the book behind the desk's tables, with these entries, numbered from 1.
pub record HoldsBook (db : Database) (entries : List BookRow) : Type 0 where
  pub shelf : Shelf
  pub schema : db.schema ≡ book_schema shelf
  pub rows : IsPermutation (book_in shelf db) (map entry_columns entries)
  pub numbered : GoOn 0 entries

-- The tables behind the book have the same rows.
abbrev pub KeepsBehind : Database → Trees → Type 0
KeepsBehind before trees = (shelf : Shelf) → before.schema ≡ book_schema shelf
    → KeepsRows (behind shelf) before.trees trees

-- The schema is the same.
abbrev pub KeepsSchema : Database → Database → Type 0
KeepsSchema before after = (shelf : Shelf) → before.schema ≡ book_schema shelf
    → after.schema ≡ before.schema

-- Whatever desk and book the first database holds, the second holds the same desk, and the book with
-- this entry behind the others.
abbrev pub Adds : BookRow → Database → Database → Type 0
Adds entry before after = (tables : Tables) (entries : List BookRow) → Holds before tables
    → HoldsBook before entries → entry.number ≡ length entries + 1
    → (after.schema ≡ before.schema) × Holds after tables × HoldsBook after (entries ++ entry ∷ [])

pub record Noted (entry : BookRow) (before after : Database) : Type 0 where
  pub adds : Adds entry before after
  pub schema : KeepsSchema before after
  pub behind : KeepsBehind before after.trees

-- The same inside a transaction, whose trees list its schema.
pub record Notes (entry : BookRow) (old new : State) : Type 0 where
  pub was_open : IsTrue old.is_open
  pub done : Noted entry old.now new.now
  pub sound : (entries : List BookRow) → HoldsBook old.now entries → IsDatabase new.now

-- A crash leaves the same desk, and the book with the entry.
pub record HoldsBoth (tables : Tables) (entries : List BookRow) (trees : Trees) : Type 0 where
  pub db : Database
  pub desk : Holds db tables
  pub book : HoldsBook db entries
  pub sound : IsDatabase db
  pub same : trees ≡ db.trees

pub record LeavesNoted (entry : BookRow) (old : State) (trees : Trees) : Type 0 where
  pub was_open : IsTrue old.is_open
  pub holds : (tables : Tables) (entries : List BookRow) → Holds old.committed tables
      → HoldsBook old.committed entries → entry.number ≡ length entries + 1
      → HoldsBoth tables (entries ++ entry ∷ []) trees
  pub behind : KeepsBehind old.committed trees

-- The schema of a file with the desk's tables and no others.
abbrev pub IsAlone : Database → Type 0
IsAlone db = (layout : Layout) × (db.schema ≡ schema_of Two (alone layout))

-- Whatever desk the first database holds, with no other tables, the second holds the same desk and an
-- empty book.
pub record Opened (before after : Database) : Type 0 where
  pub opened : (tables : Tables) → Holds before tables → IsAlone before
      → Holds after tables × HoldsBook after []

pub record Opens (old new : State) : Type 0 where
  pub was_open : IsTrue old.is_open
  pub done : Opened old.now new.now
  pub sound : IsAlone old.now → IsDatabase new.now

pub record LeavesOpened (old : State) (trees : Trees) : Type 0 where
  pub was_open : IsTrue old.is_open
  pub holds : (tables : Tables) → Holds old.committed tables → IsAlone old.committed
      → HoldsBoth tables [] trees

-- ---- a new file

-- The database has an empty desk, with this greatest number, and an empty book.
pub record HoldsEmpty (greatest : ℕ) (db : Database) : Type 0 where
  pub desk : Holds db (blank greatest)
  pub book : HoldsBook db []

-- The connection was open, and inside its transaction an empty desk and an empty book were created.
-- Before, there was no table.
pub record MakesBoth (greatest : ℕ) (old new : State) : Type 0 where
  pub was_open : IsTrue old.is_open
  pub done : old.now.schema ≡ no_schema → HoldsEmpty greatest new.now
  pub sound : old.now.schema ≡ no_schema → IsDatabase new.now

-- A crash leaves both.
pub record LeavesEmpty (greatest : ℕ) (old : State) (trees : Trees) : Type 0 where
  pub was_open : IsTrue old.is_open
  pub holds : old.now.schema ≡ no_schema → HoldsBoth (blank greatest) [] trees

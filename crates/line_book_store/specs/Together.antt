-- A command and entries about it, in one transaction.
use Rattle.std.specs.Prelude.{◌≡◌, ◌++◌, IsTrue, List, [], ◌∷◌, length}
use Rattle.sqlite.specs.Effect.{Database, IsDatabase}
use Rattle.sqlite.specs.State.{State}
use Rattle.sqlite_trees.specs.Tree.{Trees}
use Rattle.line_tables.specs.Edit.{Edit}
use Rattle.line_tables.specs.Rows.{Tables, Holds, after_edits, AreNew}
use Rattle.line_book.specs.declared.row.BookRow.{BookRow}
use Rattle.line_book_store.specs.Book.{GoOn, HoldsBook, HoldsBoth, KeepsBehind, KeepsSchema}

-- Whatever desk and book the first database holds, the second holds the same desk, and the book with
-- these entries behind the others.
abbrev pub AddsAll : List BookRow → Database → Database → Type 0
AddsAll news before after = (tables : Tables) (entries : List BookRow) → Holds before tables
    → HoldsBook before entries → GoOn (length entries) news
    → (after.schema ≡ before.schema) × Holds after tables × HoldsBook after (entries ++ news)

-- The same inside a transaction, whose trees still list its schema.
pub record NotesAll (news : List BookRow) (old new : State) : Type 0 where
  pub adds : AddsAll news old.now new.now
  pub schema : KeepsSchema old.now new.now
  pub behind : KeepsBehind old.now new.now.trees
  pub sound : (tables : Tables) (entries : List BookRow) → Holds old.now tables
      → HoldsBook old.now entries → GoOn (length entries) news → IsDatabase old.now
      → IsDatabase new.now

-- Whatever desk and book the first database holds, the second holds the desk with the edits, and the
-- book with the entries.
abbrev pub AddsTogether : List Edit → List BookRow → Database → Database → Type 0
AddsTogether edits news before after = (tables : Tables) (entries : List BookRow)
    → Holds before tables → AreNew edits tables → HoldsBook before entries
    → GoOn (length entries) news → (after.schema ≡ before.schema)
    × Holds after (after_edits edits tables) × HoldsBook after (entries ++ news)

pub record AddsBoth (edits : List Edit) (news : List BookRow) (before after : Database)
    : Type 0 where
  pub adds : AddsTogether edits news before after
  pub behind : KeepsBehind before after.trees

pub record WritesBoth (edits : List Edit) (news : List BookRow) (old new : State) : Type 0 where
  pub was_open : IsTrue old.is_open
  pub done : AddsBoth edits news old.now new.now
  pub sound : (tables : Tables) (entries : List BookRow) → Holds old.now tables
      → AreNew edits tables → HoldsBook old.now entries → GoOn (length entries) news
      → IsDatabase new.now

-- A crash leaves the desk with the edits and the book with the entries.
pub record LeavesTogether (edits : List Edit) (news : List BookRow) (old : State)
    (trees : Trees) : Type 0 where
  pub was_open : IsTrue old.is_open
  pub holds : (tables : Tables) (entries : List BookRow) → Holds old.committed tables
      → AreNew edits tables → HoldsBook old.committed entries → GoOn (length entries) news
      → HoldsBoth (after_edits edits tables) (entries ++ news) trees
  pub behind : KeepsBehind old.committed trees

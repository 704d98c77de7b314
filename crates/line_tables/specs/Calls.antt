-- The effects of the calls on the tables, their results, and the contents that a crash may leave.
use Rattle.std.specs.Prelude.{◌≡◌, ◌⊎◌, ◌&&◌, IsTrue, ℕ, ℤ, pos, Bool, true, false, List, [], ◌∷◌, map, Ok, Option, Some, None, drop}
use Rattle.std.specs.List.{AllByRecursion}
use Rattle.sqlite.specs.declared.types.Value.TheVariants.{Int, Text}
use Rattle.std.specs.Ordering.{is_gt}
use Rattle.std.specs.List.Sorted.{IsPermutation}
use Rattle.sqlite_value.specs.declared.value.Value.{Value}
use Rattle.sqlite_value.specs.Keys.{collated}
use Rattle.sqlite_value.specs.Order.{Row, column}
use Rattle.sqlite_schema.specs.Rules.{equal}
use Rattle.sqlite.specs.Schema.{Schema}
use Rattle.sqlite_sql.specs.Ops.{binary, is_true}
use Rattle.sqlite_sql.specs.declared.ops.BinaryOp.TheVariants.{Compare}
use Rattle.sqlite_sql.specs.declared.ops.CompareOp.TheVariants.{Lt}
use Rattle.sqlite.specs.Collation.TheVariants.{Binary}
use Rattle.sqlite.specs.Effect.{Database, IsDatabase}
use Rattle.sqlite_trees.specs.Tree.{Trees}
use Rattle.sqlite_trees.specs.declared.store.Store.{Ghosts}
use Rattle.sqlite.specs.Held.{Held, state}
use Rattle.sqlite.specs.State.{State, Shows, Shown, Executes}
use Rattle.line_tables.specs.declared.edit.Accepted.{Accepted}
use Rattle.line_tables.specs.Edit.{Edit}
use Rattle.line_tables.specs.Edit.{EditRow}
use Rattle.desk_types.specs.declared.edit.RowEdit.{RowEdit}
use Rattle.line_tables.specs.declared.version.Version.{Version}
use Rattle.sqlite_catalog.specs.Change.{KeepsRows}
use Rattle.desk_types.specs.declared.rules.Rules.TheVariants.{One, Two}
use Rattle.line_tables.specs.Line.{no_schema, IsOurs, schema_of, schema_tables, line_schema, found_tree, Layout, alone, others_in}
use Rattle.line_tables.specs.Rows.{Tables, Holds, HoldsBy, HoldsAt, columns_of, blank, after_edits, AreNew}

-- If the database is of version 2, each of other people's tables, behind ours, has these rows.
abbrev pub HasOthers : Database → Trees → Type 0
HasOthers before trees = (layout : Layout) → before.schema ≡ schema_of Two layout
    → KeepsRows (others_in layout).tables before.trees trees

-- The other database, with the same schema, has these rows too.
pub record KeepsOthers (before after : Database) : Type 0 where
  pub schema : (layout : Layout) → before.schema ≡ schema_of Two layout
      → after.schema ≡ before.schema
  pub rows : HasOthers before after.trees

-- Whatever tables the first database holds, the second holds them with the edits made, in the same layout.
abbrev pub Edits : List Edit → Database → Database → Type 0
Edits edits before after = (tables : Tables) → Holds before tables → AreNew edits tables
    → (after.schema ≡ before.schema) × Holds after (after_edits edits tables)

-- The second database is the first with the edits made. Other people's tables are unchanged.
pub record Edited (edits : List Edit) (before after : Database) : Type 0 where
  pub tables : Edits edits before after
  pub others : KeepsOthers before after

-- The connection was open, and the edits were made inside its transaction, whose trees list its schema. Other people's
-- rows are unchanged.
pub record Writes (edits : List Edit) (old new : State) : Type 0 where
  pub was_open : IsTrue old.is_open
  pub done : Edits edits old.now new.now
  pub sound : (tables : Tables) → Holds old.now tables → AreNew edits tables → IsDatabase new.now
  pub others : KeepsOthers old.now new.now

-- The same for one edit of a state table.
abbrev pub WritesRow : RowEdit → State → State → Type 0
WritesRow edit old new = Writes (EditRow edit ∷ []) old new

-- A crash may leave the tables of the last commit with the edits made, in the same layout, and other people's rows
-- unchanged.
pub record LeavesEdited (edits : List Edit) (old : State) (trees : Trees) : Type 0 where
  pub was_open : IsTrue old.is_open
  pub holds : (tables : Tables) → Holds old.committed tables → AreNew edits tables
      → (left : HoldsAt (after_edits edits tables) trees) × (left.0.schema ≡ old.committed.schema)
  pub others : HasOthers old.committed trees

-- A crash may leave the tables of an empty history, in the layout of new files. Before, there was no table.
pub record LeavesBlank (greatest : ℕ) (old : State) (trees : Trees) : Type 0 where
  pub was_open : IsTrue old.is_open
  pub holds : old.now.schema ≡ no_schema → (left : HoldsAt (blank greatest) trees)
      × (left.0.schema ≡ line_schema)

-- The database has the tables of an empty history, in the layout of new files.
pub record HoldsBlank (greatest : ℕ) (db : Database) : Type 0 where
  pub layout : db.schema ≡ line_schema
  pub tables : Holds db (blank greatest)

-- The connection was open, and inside its transaction the tables of an empty history were created in the layout of new
-- files. Before, there was no table. The trees list the schema.
pub record Makes (greatest : ℕ) (old new : State) : Type 0 where
  pub was_open : IsTrue old.is_open
  pub done : old.now.schema ≡ no_schema → HoldsBlank greatest new.now
  pub sound : old.now.schema ≡ no_schema → IsDatabase new.now

-- Whatever tables the first database holds by version 1, the second holds by version 2, in the same layout. Only
-- `version` has other rows.
pub record Migrated (before after : Database) : Type 0 where
  pub holds : (tables : Tables) → HoldsBy One before tables → Holds after tables
  pub layout : (indexed : Layout) → before.schema ≡ schema_of One indexed
      → after.schema ≡ schema_of Two (alone indexed)
  pub same : (indexed : Layout) → before.schema ≡ schema_of One indexed
      → KeepsRows (drop 1 (schema_tables One indexed)) before.trees after.trees

-- The connection was open, and a database of version 1 became one of version 2 inside its transaction, whose trees list its schema.
pub record Migrates (old new : State) : Type 0 where
  pub was_open : IsTrue old.is_open
  pub done : Migrated old.now new.now
  pub sound : (tables : Tables) → HoldsBy One old.now tables → IsDatabase new.now

-- A crash may leave the tables of the last commit, which was of version 1, as version 2 holds them, in the same layout.
pub record LeavesMigrated (old : State) (trees : Trees) : Type 0 where
  pub was_open : IsTrue old.is_open
  pub holds : (tables : Tables) → HoldsBy One old.committed tables → (left : HoldsAt tables trees)
      × ((indexed : Layout) → old.committed.schema ≡ schema_of One indexed
      → left.0.schema ≡ schema_of Two (alone indexed))

-- The database has this schema, and its tables are empty.
pub record IsBare (with : Schema) (db : Database) : Type 0 where
  pub schema : db.schema ≡ with
  pub empty : AllByRecursion (λ t. db.trees t.tree ≡ []) with.tables

-- The connection was open, and a database with the first schema and no row now has the second, and no row.
pub record Extends (before after : Schema) (old new : State) : Type 0 where
  pub was_open : IsTrue old.is_open
  pub bare : IsBare before old.now → IsBare after new.now

-- The database has one more table, which is empty, and no other row changed.
pub record Grows (before after : Schema) (tree : ℕ) (old new : Database) : Type 0 where
  pub schema : new.schema ≡ after
  pub kept : KeepsRows before.tables old.trees new.trees
  pub empty : new.trees tree ≡ []

-- The connection was open, and a database of version 1 now has the table `found`, in the same layout.
pub record AddsFound (old new : State) : Type 0 where
  pub was_open : IsTrue old.is_open
  pub added : (indexed : Layout) → old.now.schema ≡ schema_of One indexed → Grows (schema_of One
      indexed) (schema_of Two (alone indexed)) (found_tree (alone indexed)) old.now new.now

-- The statement ran inside a transaction, which stays open.
pub record Runs (sql : List ℕ) (params : Row) (old new : State) : Type 0 where
  pub count : ℕ
  pub executed : Executes sql params old new (Ok count)
  pub shown : Shows old new new.now old.committed true

-- The statement ran inside a transaction, which stays open, and changed this number of rows.
pub record Changes (count : ℕ) (sql : List ℕ) (params : Row) (old new : State) : Type 0 where
  pub executed : Executes sql params old new (Ok count)
  pub shown : Shows old new new.now old.committed true

-- The first statement changed one row, or it changed no row and the second ran.
abbrev pub ChangesOrPuts : {S : Type 0} → Ghosts S → List ℕ → List ℕ → Row → State → State → Type 0
ChangesOrPuts g update insert params old new = Changes 1 update params old new ⊎ ((between : Held _)
    × Changes 0 update params old (state g between) × Runs insert params (state g between) new)

-- The query shows these rows, in its own transaction, which sees the committed contents.
pub record Selects {S : Type 0} (g : Ghosts S) (sql : List ℕ) (params : Row) (old : Held S)
    (rows : List Row) : Type 0 where
  pub was_open : IsTrue (state g old).is_open
  pub settled : (state g old).now ≡ (state g old).committed
  pub after : Held S
  pub shown : Shown sql params (state g (record old { in_transaction = true })) (state g after) rows

-- The connection was open, and this holds of the committed contents if they have our schema, of either version and
-- layout.
pub record Reads (old : State) (Is : Database → Type 0) : Type 0 where
  pub was_open : IsTrue old.is_open
  pub are : IsOurs old.committed.schema → Is old.committed

-- The row has this UniqueID.
abbrev pub has_uid : List ℕ → Row → Bool
has_uid uid row = equal Binary (column row 1) (Text uid)

-- The row has this number.
abbrev pub has_number : ℕ → Row → Bool
has_number number row = equal Binary (column row 0) (Int (pos number))

-- The row has this UniqueID, and a number below this one.
abbrev pub is_before : List ℕ → ℕ → Row → Bool
is_before uid number row =
    has_uid uid row && is_true (binary (Compare Lt Binary) (column row 0) (Int (pos number)))

-- The columns of a row, if one was found.
abbrev pub row_of : Option Accepted → List Row
row_of None = []
row_of (Some a) = columns_of a ∷ []

-- A row, if one was found.
abbrev pub only : Option Row → List Row
only None = []
only (Some row) = row ∷ []

-- A number in its own row, if any.
abbrev pub number_row : Option ℤ → List Row
number_row None = []
number_row (Some n) = (Int n ∷ []) ∷ []

-- The least number of the rows in SQL's order of values, if there is a row.
abbrev pub IsLeast : List Row → Option ℤ → Type 0
IsLeast rows None = rows ≡ []
IsLeast rows (Some n) = (others : List Value)
    × IsPermutation (map (λ row. column row 0) rows) (Int n ∷ others)
    × AllByRecursion (λ other. is_gt (collated Binary (Int n) other) ≡ false) others

-- `version` has a single row, with a 1 and these numbers, or its rows are not of this form.
abbrev pub IsVersionOf : List Row → Option Version → Type 0
IsVersionOf rows (Some v) = rows ≡ (Int (pos 1) ∷ Int v.number ∷ Int v.greatest ∷ []) ∷ []
IsVersionOf rows None = (number greatest : ℤ)
    → rows ≡ (Int (pos 1) ∷ Int number ∷ Int greatest ∷ []) ∷ [] → ⊥

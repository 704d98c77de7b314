-- The rows of the tables, and the effect of edits on them.
use Rattle.std.specs.Prelude.{◌≡◌, ◌<◌, ◌^◌, ⊤, Bool, ℕ, pos, List, [], ◌∷◌, map, fold, string_bytes}
use Rattle.std.specs.List.Sorted.{IsPermutation}
use Rattle.sqlite.specs.declared.types.Value.TheVariants.{Int, Text}
use Rattle.sqlite_value.specs.Order.{Row, column}
use Rattle.sqlite.specs.Effect.{Database, IsDatabase}
use Rattle.sqlite_trees.specs.Tree.{Trees}
use Rattle.line_tables.specs.declared.edit.Accepted.{Accepted}
use Rattle.line_tables.specs.Edit.{Edit}
use Rattle.line_tables.specs.Edit.{PutAccepted, EditRow}
use Rattle.desk_types.specs.Tables.{Tables as StateTables, tables_of as state_of}
use Rattle.desk_types.specs.Edits.{with_edit as state_with, IsNew as IsNewRow}
use Rattle.desk_types.specs.declared.rules.Rules.{Rules}
use Rattle.desk_types.specs.declared.rules.Rules.TheVariants.{One, Two}
use Rattle.line_tables.specs.StateRows.{HoldsStateBy}
use Rattle.line_tables.specs.Rowids.{AreAllApartBy}
use Rattle.line_tables.specs.Line.{schema_of, Layout}

-- The columns of a row of `accepted`, in their order.
abbrev pub columns_of : Accepted → Row
columns_of a = Int (pos a.number) ∷ Text (string_bytes a.uid) ∷ Text (string_bytes a.source)
    ∷ Int (pos a.own) ∷ Int (pos a.effective) ∷ Text (string_bytes a.command)
    ∷ Text (string_bytes a.detail) ∷ []

-- The numbers are within the program's ranges.
abbrev pub HasNumbers : Accepted → Type 0
HasNumbers a = (a.number < 2 ^ 32) × (a.own < 2 ^ 32) × (a.effective < 2 ^ 32)

-- The version of the tables.
abbrev pub version_of : Rules → ℕ
version_of One = 1
version_of Two = 2

-- The row of `version`: 1, the version of the tables, and the greatest number.
abbrev pub version_row : Rules → ℕ → Row
version_row rules greatest = Int (pos 1) ∷ Int (pos (version_of rules)) ∷ Int (pos greatest) ∷ []

-- The columns of a stored row. It begins with its rowid, which is its first column, and has no value in that column's
-- place.
abbrev pub accepted_columns : Row → Row
accepted_columns r = column r 0 ∷ column r 2 ∷ column r 3 ∷ column r 4 ∷ column r 5
    ∷ column r 6 ∷ column r 7 ∷ []

abbrev pub version_columns : Row → Row
version_columns r = column r 0 ∷ column r 2 ∷ column r 3 ∷ []

-- The rows of each table in a database of our schema.
abbrev pub version_in : Database → List Row
version_in db = map version_columns (db.trees 0)

abbrev pub accepted_in : Database → List Row
accepted_in db = map accepted_columns (db.trees 1)

-- The greatest number, the rows of `accepted` in any order, and the state tables.
pub record Tables : Type 0 where
  pub greatest : ℕ
  pub accepted : List Row
  pub state : StateTables

-- The database has the schema of the rules in this layout, and these tables with distinct rowids.
pub record HoldsBy (rules : Rules) (db : Database) (tables : Tables) : Type 0 where
  pub indexed : Layout
  pub schema : db.schema ≡ schema_of rules indexed
  pub version : version_in db ≡ version_row rules tables.greatest ∷ []
  pub accepted : IsPermutation (accepted_in db) tables.accepted
  pub state : HoldsStateBy rules db tables.state
  pub apart : AreAllApartBy rules db

-- The tables of version 2, as they are created.
abbrev pub Holds : Database → Tables → Type 0
Holds = HoldsBy Two

-- A crash may leave only a database with these tables, whose schema the trees list.
abbrev pub HoldsAt : Tables → Trees → Type 0
HoldsAt tables trees = (db : Database) × Holds db tables × IsDatabase db × (trees ≡ db.trees)

-- The tables of an empty history.
abbrev pub blank : ℕ → Tables
blank greatest = record { greatest = greatest; accepted = []; state = state_of [] }

-- The tables after one edit.
abbrev pub with_edit : Tables → Edit → Tables
with_edit tables (PutAccepted a) = record tables { accepted = columns_of a ∷ tables.accepted }
with_edit tables (EditRow edit) = record tables { state = state_with edit tables.state }

-- The tables after the edits, in their order.
abbrev pub after_edits : List Edit → Tables → Tables
after_edits edits tables = fold with_edit tables edits

-- The edit puts no new row where the tables have one.
abbrev pub IsNew : Edit → Tables → Type 0
IsNew (PutAccepted a) tables = ⊤
IsNew (EditRow edit) tables = IsNewRow edit tables.state

-- The same for each edit, made one after another.
abbrev pub AreNew : List Edit → Tables → Type 0
AreNew [] tables = ⊤
AreNew (x ∷ xs) tables = IsNew x tables × AreNew xs (with_edit tables x)

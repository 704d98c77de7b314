-- Rows with distinct rowids.
use Rattle.std.specs.Prelude.{◌≡◌, ℕ, ◌+◌, ◌*◌, IsTrue, true, List, ◌∷◌}
use Rattle.std.specs.List.{AllByRecursion}
use Rattle.std.specs.declared.cmp.Ordering.TheVariants.{Equal}
use Rattle.sqlite_value.specs.Order.{Row, value_cmp}
use Rattle.sqlite_schema.specs.declared.schema.Table.{Table}
use Rattle.sqlite.specs.Effect.{Database}
use Rattle.sqlite_rules.specs.Lists.{Has}
use Rattle.sqlite_trees.specs.Tree.{rowid}
use Rattle.sqlite_trees.specs.View.{is_int}
use Rattle.desk_types.specs.declared.rules.Rules.{Rules}
use Rattle.desk_types.specs.declared.rules.Rules.TheVariants.{Two}
use Rattle.line_tables.specs.Line.{part, alternate, sheet_row, selected, reel, mount, board, found_tables, nothing}
use Rattle.line_tables.specs.Line.Layout.{Indexed}
use Rattle.line_tables.specs.StateRows.{kept_in}

-- Each row has an integer as its rowid, and no other row has it.
pub record AreApart (rows : List Row) : Type 0 where
  pub keyed : (a : Row) → Has rows a → IsTrue (is_int (rowid a))
  pub apart : (a b : Row) → Has rows a → Has rows b → value_cmp (rowid a) (rowid b) ≡ Equal → a ≡ b

-- The state tables whose rows are deleted or changed by rowid: all except `placement`.
abbrev pub changed_of : Rules → List Table
changed_of rules = part ∷ alternate ∷ sheet_row ∷ selected ∷ reel ∷ mount ∷ board
    ∷ found_tables rules (Indexed nothing)

abbrev pub changed_tables : List Table
changed_tables = changed_of Two

-- The rows of each of these tables have distinct rowids.
abbrev pub AreAllApartBy : Rules → Database → Type 0
AreAllApartBy rules db = AllByRecursion (λ table. AreApart (kept_in table db)) (changed_of rules)

abbrev pub AreAllApart : Database → Type 0
AreAllApart = AreAllApartBy Two

-- The rowid of a new placement, which follows from its number and place.
abbrev pub placement_id : ℕ → ℕ → ℕ
placement_id number place = number * 65536 + place

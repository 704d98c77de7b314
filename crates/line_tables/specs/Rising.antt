-- The results of queries for rowids.
use Rattle.std.specs.Prelude.{◌≡◌, ◌↔◌, ⊤, ℕ, ℤ, Bool, IsTrue, Option, None, Some, List, [], ◌∷◌}
use Rattle.std.specs.List.{AllByRecursion}
use Rattle.std.specs.Ordering.{int_cmp}
use Rattle.std.specs.declared.cmp.Ordering.TheVariants.{Less}
use Rattle.sqlite_value.specs.declared.value.Value.{Value}
use Rattle.sqlite.specs.declared.types.Value.TheVariants.{Int}
use Rattle.sqlite_value.specs.Order.{Row, column, value_cmp}
use Rattle.sqlite_schema.specs.declared.schema.Table.{Table}
use Rattle.sqlite.specs.Effect.{Database}
use Rattle.sqlite.specs.Held.{Held}
use Rattle.sqlite_trees.specs.Tree.{IsAscending}
use Rattle.sqlite_trees.specs.View.{is_int}
use Rattle.sqlite_trees.specs.declared.store.Store.{Ghosts}
use Rattle.line_tables.specs.Rowids.{AreApart}
use Rattle.sqlite.specs.State.{State}
use Rattle.desk_types.specs.declared.rules.Rules.{Rules}
use Rattle.desk_types.specs.declared.rules.Rules.TheVariants.{One, Two}
use Rattle.line_tables.specs.Line.{found}
use Rattle.line_tables.specs.StateRows.{kept_in}
use Rattle.line_tables.specs.Calls.{Reads, Selects}

-- The number is above the last one, if there is one.
abbrev pub IsPast : Option ℤ → ℤ → Type 0
IsPast None n = ⊤
IsPast (Some last) n = int_cmp last n ≡ Less

-- The row's first value is below this one.
abbrev pub IsBefore : Value → Row → Type 0
IsBefore v row = value_cmp (column row 0) v ≡ Less

-- Each row is an integer, above those before.
abbrev pub AreRising : List Row → Type 0
AreRising rows = IsAscending (λ a b. value_cmp (column a 0) (column b 0) ≡ Less) rows
    × AllByRecursion (λ row. IsTrue (is_int (column row 0))) rows

-- The row is one integer.
abbrev pub IsNumber : Row → Type 0
IsNumber row = (n : ℤ) × (row ≡ Int n ∷ [])

-- The result says whether the shown numbers increase.
abbrev pub Shows : {S : Type 0} → Ghosts S → List ℕ → Held S → Bool → Type 0
Shows g sql old rising = (rows : List Row) × Selects g sql [] old rows
    × (IsTrue rising ↔ AreRising rows)

-- If the result is yes, the rows of each of these tables have distinct rowids.
abbrev pub AreApartWhere : Bool → List Table → Database → Type 0
AreApartWhere apart tables db = IsTrue apart
    → AllByRecursion (λ table. AreApart (kept_in table db)) tables

-- The same for `found` if the rules have that table. Otherwise the result is yes.
abbrev pub IsFoundApartWhere : Rules → Bool → State → Type 0
IsFoundApartWhere One apart s = IsTrue apart
IsFoundApartWhere Two apart s = Reads s (AreApartWhere apart (found ∷ []))

-- Rows that are looked up by key.
use Rattle.std.specs.Prelude.{◌≡◌, ◌↔◌, ◌⊎◌, ◌+◌, ⊤, ℕ, length, Bool, true, IsTrue, Option, Some, List, [], ◌∷◌, filter}
use Rattle.std.specs.List.{AllByRecursion}
use Rattle.std.specs.Iterator.{AlwaysYields}
use Rattle.sqlite_value.specs.Order.{Row}
use Rattle.sqlite_schema.specs.declared.schema.Table.{Table}
use Rattle.sqlite_trees.specs.declared.store.Store.{Ghosts}
use Rattle.sqlite.specs.Held.{Held}
use Rattle.sqlite.specs.State.{State}
use Rattle.sqlite.specs.Effect.{Database}
use Rattle.line_tables.specs.Calls.{Selects, Reads}
use Rattle.line_tables.specs.StateRows.{AreRows, rows_in}

-- The query shows this row and no other.
abbrev pub ShowsOnly : {S : Type 0} → Ghosts S → List ℕ → Row → Held S → Row → Bool → Type 0
ShowsOnly g sql params old row b = (rows : List Row) × Selects g sql params old rows
    × (IsTrue b ↔ (rows ≡ row ∷ []))

-- In the committed contents, this is the only row that passes the test.
abbrev pub FindsAlone : Table → (Row → Bool) → Row → State → Bool → Type 0
FindsAlone table has row old b =
    Reads old (λ db. IsTrue b ↔ (filter has (rows_in table db) ≡ row ∷ []))

-- The same for the row of this entry, a key and its stored value.
abbrev pub FindsEntry : {K R : Type 0} → Table → (K → Row → Bool) → (K → R → Row)
    → K × R → State → Bool → Type 0
FindsEntry table has columns e = FindsAlone table (has e.0) (columns e.0 e.1)

-- In the committed contents, the table has this number of rows.
abbrev pub Counts : Table → State → ℕ → Type 0
Counts table old n = Reads old (λ db. n ≡ length (rows_in table db))

-- The row of each entry is the one with its key.
abbrev pub AreAlone : {K R : Type 0} → (K → Row → Bool) → (K → R → Row)
    → List Row → List (K × R) → Type 0
AreAlone has columns rows es = AllByRecursion (λ e. filter (has e.0) rows ≡ columns e.0 e.1 ∷ []) es

-- The row of each entry is the one with its key, and this number of other rows remains.
abbrev pub AreMatched : {K R : Type 0} → Table → (K → Row → Bool) → (K → R → Row) → State
    → ℕ → List (K × R) → Type 0
AreMatched table has columns old left es = Reads old (λ db.
    (left + length es ≡ length (rows_in table db)) × AreAlone has columns (rows_in table db) es)

-- Whether this holds of the committed contents.
abbrev pub Decides : (Database → Type 0) → State → Bool → Type 0
Decides Is old b = Reads old (λ db. IsTrue b ↔ Is db)

-- The key differs from those of the entries.
abbrev pub IsNew : {K R : Type 0} → K → List (K × R) → Type 0
IsNew k es = AllByRecursion (λ e. k ≡ e.0 → ⊥) es

-- No two entries have the same key.
abbrev pub AreApart : {K R : Type 0} → List (K × R) → Type 0
AreApart [] = ⊤
AreApart (e ∷ es) = IsNew e.0 es × AreApart es

-- Some entry has the key.
abbrev pub IsNamed : {K R : Type 0} → K → List (K × R) → Type 0
IsNamed k [] = ⊥
IsNamed k (e ∷ es) = (k ≡ e.0) ⊎ IsNamed k es

-- The entries are those of the map.
pub record Listed {K R : Type 0} (es : List (K × R)) (f : K → Option R) : Type 0 where
  pub each : AllByRecursion (λ e. f e.0 ≡ Some e.1) es
  pub all : (k : K) (r : R) → f k ≡ Some r → IsNamed k es
  pub distinct : AreApart es

-- A row has at most one key.
abbrev pub HasOneKey : {K : Type 0} → (K → Row → Bool) → Type 0
HasOneKey has = (k l : _) (row : Row) → has k row ≡ true → has l row ≡ true → k ≡ l

-- Whether the table has exactly the rows that the iterator yields, for any map they list.
abbrev pub DecidesRows : {I A K R : Type 0} → (I → Option A → I → Type 0) → (A → K × R) → I → Table
    → (K → Row → Bool) → (K → R → Row) → State → Bool → Type 0
DecidesRows {K = K} {R = R} steps entry from table has columns old b = (es : List (K × R))
    → AlwaysYields steps entry from es → (f : K → Option R) → Listed es f → HasOneKey has
    → Decides (λ db. AreRows has columns (rows_in table db) f) old b

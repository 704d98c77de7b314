-- The result of a look-up by a key.
use Rattle.desk_types.proofs.Common.{[], ◌↔◌, ◌∷◌, ◌≡◌, Bool, filter, IsPermutation, IsPermutation-sym}
use Rattle.desk_types.proofs.Common.{IsTrue, List, list_all, Some, subst, ℕ}
use Rattle.line_tables.proofs.Common.{columns, Ghosts, Held, holds, output, Row, rows_in, state, Table, Term}
use Rattle.line_tables.proofs.Common.{tree_in}
use Rattle.line_replay.specs.Alone.{FindsAlone, ShowsOnly}
use Rattle.line_tables.proofs.{FindTexts.IsSelectBy, FindTexts.rows_from, Finds.finds_rows, Finds.one_order}

alone_as : (passed shown : List Row) (row : Row) (b : Bool) → IsPermutation passed shown → (IsTrue b ↔ (shown ≡ row ∷ [])) → IsTrue b ↔ (passed ≡ row ∷ [])
alone_as passed shown row b same is = (
  λ yes. one_order passed (Some row) (subst (IsPermutation passed) (is.0 yes) same),
  λ one. is.1 (one_order shown (Some row) (subst (IsPermutation shown) one (IsPermutation-sym passed shown same))),
)

pub finds_alone : {S : Type 0} (g : Ghosts S) (sql : List ℕ) (table : Table) (test project : List Term) (names : List (List ℕ)) → IsSelectBy sql (λ schema. rows_from (tree_in table schema) test project) names → (params : Row) (has : Row → Bool)
    → ((r : Row) → list_all (holds (params ∷ r ∷ [])) test ≡ has (columns table r)) → ((r : Row) → (output (rows_from 0 test project) (params ∷ r ∷ [])).1 ≡ columns table r)
    → (old : Held S) (row : Row) (b : Bool) → ShowsOnly g sql params old row b → FindsAlone table has row (state g old) b
finds_alone g sql table test project names is params has passes out old row b shows =
    let rows = shows.0 in
    let found = finds_rows g sql (tree_in table) test project names is params (columns table) has passes out old rows shows.1 in
    record { was_open = found.was_open; are = λ schema. alone_as (filter has (rows_in table (state g old).committed)) rows row b (found.are schema) shows.2 }

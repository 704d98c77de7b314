-- The ends of the table of placements.
use Rattle.desk_types.proofs.Common.{[], ◌∙◌, ◌∷◌, ◌≡◌, ◌⊎◌, All-from_recursion, All-permutation}
use Rattle.desk_types.proofs.Common.{AllByRecursion, ap, arith, Bool, codes, filter, if◌then◌else◌, inl, inr}
use Rattle.desk_types.proofs.Common.{IsPermutation, IsPermutation-map, IsPermutation-sym, length, length-map}
use Rattle.desk_types.proofs.Common.{length_permutation, List, map, None, Option, pos, recursion_from_All}
use Rattle.desk_types.proofs.Common.{refl, Some, subst, sym, true, ℕ, ℤ}
use Rattle.line_tables.proofs.Common.{all_weaker, Binary, col, column, columns, Compare, Database, everything}
use Rattle.line_tables.proofs.Common.{Ge, Ghosts, Held, Int, IsAnswer, IsLeast, kept_in, lit, op2, Output}
use Rattle.line_tables.proofs.Common.{output, overlay, Query, Reads, Row, rowid, rows_in, Selects, state}
use Rattle.line_tables.proofs.Common.{understood, value_cmp}
use Rattle.line_replay.proofs.RowidRanges.{at_most, from_is, from_lower}
use Rattle.line_replay.specs.Placed.{HasBefore, is_from}
use Rattle.line_tables.proofs.FindTexts.{IsSelect, least_from, rows_from}
use Rattle.line_tables.proofs.Finds.{and_true, answer_of, shown_is, shown_of, whole}
use Rattle.sqlite_value.specs.declared.value.Value.{Value}
use Rattle.std.specs.Ordering.{is_ge}
use Rattle.line_tables.specs.Line as line

-- ---- the least rowid

abbrev pub select_least : List ℕ
select_least = codes "SELECT rowid FROM placement ORDER BY rowid LIMIT 1"

pub select_least_is : IsSelect select_least (least_from 17) (codes "rowid" ∷ [])
unfolding understood everything
select_least_is rules indexed = inl (refl, refl, (refl, refl))

-- ---- rows from a rowid on

abbrev select_from : List ℕ
select_from = codes "SELECT number FROM placement WHERE rowid >= ?1 LIMIT 1"

abbrev from_query : Query
from_query = record (rows_from 17 (op2 (Compare Ge Binary) (col 1 0) (col 0 0) ∷ []) (col 1 1 ∷ [])) { limit = lit (Int (pos 1)) }

select_from_is : IsSelect select_from from_query (codes "number" ∷ [])
unfolding understood everything
select_from_is rules indexed = inl (refl, refl, (refl, refl))

no_outputs : (l : List Output) → Rattle.std.proofs.Common.take 1 (map (λ (o : Output). o.1) l) ≡ [] → l ≡ []
no_outputs [] h = refl
no_outputs (o ∷ l) h = absurd (let n = ap length h in omega (arith, n))

no_items : (l : List Row) → length l ≡ 0 → l ≡ []
no_items [] h = refl
no_items (r ∷ l) h = absurd (omega (arith, h))

pub none_from : {S : Type 0} (g : Ghosts S) (old : Held S) (first : ℕ) (rows : List Row) → Selects g select_from (Int (pos first) ∷ []) old rows → length rows ≡ 0 → Reads (state g old) (λ db. filter (is_from first) (kept_in line.placement db) ≡ [])
none_from g old first rows h empty = record {
  was_open = h.was_open;
  are = λ schema.
      let params = Int (pos first) ∷ [] in
      let kept = (state g old).committed.trees 17 in
      let a : IsAnswer from_query (overlay (state g old).committed.trees []) params rows = answer_of g select_from from_query _ select_from_is params old rows h schema in
      let same : IsPermutation (shown_of from_query params kept) (map (λ (o : Output). o.1) a.ordered) =
      subst (λ k. IsPermutation k (map (λ (o : Output). o.1) a.ordered)) (ap (map (λ (o : Output). o.1)) (a.distinct ∙ ap (map (output from_query)) a.grouped)) (IsPermutation-map (λ (o : Output). o.1) a.kept a.ordered a.same) in
      let none = no_outputs a.ordered (sym a.shown ∙ no_items rows empty) in
      let passed = shown_is from_query params (λ r. r) (λ r. column r 1 ∷ []) (is_from first) (λ r. and_true _ ∙ from_is (column r 0) first) (λ r. refl) kept in
      no_items _ (ap (λ (l : List Row). length (filter (is_from first) l)) (sym (whole kept)) ∙ sym (length-map _ (λ (r : Row). column r 1 ∷ [])) ∙ ap length (sym passed) ∙ sym (length_permutation _ _ same) ∙ ap (λ (l : List Output). length (map (λ (o : Output). o.1) l)) none);
}

-- ---- all rows are between

abbrev is_value_from_0 : Value → Type 0
is_value_from_0 v = is_ge (value_cmp v (Int (pos 0))) ≡ true

all_from : (rows : List Row) → AllByRecursion is_value_from_0 (map (λ (row : Row). column row 0) (map (λ row. rowid row ∷ []) rows)) → length (filter (is_from 0) rows) ≡ length rows
all_from [] h = refl
all_from (r ∷ rows) h = ap (λ (b : Bool). length (if b then r ∷ filter (is_from 0) rows else filter (is_from 0) rows)) h.0 ∙ ap Rattle.std.proofs.Common.suc (all_from rows h.1)

no_rowids : (rows : List Row) → map (λ row. rowid row ∷ []) rows ≡ [] → length (filter (is_from 0) rows) ≡ length rows
no_rowids [] h = refl
no_rowids (r ∷ rows) h = absurd (let n = ap length h in omega (arith, n))

least_from_0 : (rows : List Row) (least : Option ℤ) → (least ≡ None) ⊎ ((k : ℕ) × (least ≡ Some (pos k))) → IsLeast (map (λ row. rowid row ∷ []) rows) least → length (filter (is_from 0) rows) ≡ length rows
least_from_0 rows least (inl is) h = no_rowids rows (subst (IsLeast (map (λ row. rowid row ∷ []) rows)) is h)
least_from_0 rows least (inr some) h =
    let k = some.0 in
    let l = subst (IsLeast (map (λ row. rowid row ∷ []) rows)) some.1 h in
    let each = all_weaker _ is_value_from_0 (λ v low. from_lower 0 k v (omega arith) low) l.0 l.2 in
    let first : is_value_from_0 (Int (pos k)) = from_lower 0 k (Int (pos k)) (omega arith) (at_most k k (omega arith)) in
    all_from rows (recursion_from_All is_value_from_0 _ (All-permutation is_value_from_0 _ _ (IsPermutation-sym _ _ l.1) (All-from_recursion is_value_from_0 (Int (pos k) ∷ l.0) (first, each))))

pub all_before : (db : Database) (least : Option ℤ) (end count : ℕ) → (least ≡ None) ⊎ ((k : ℕ) × (least ≡ Some (pos k))) → IsLeast (map (λ row. rowid row ∷ []) (kept_in line.placement db)) least → filter (is_from end) (kept_in line.placement db) ≡ []
    → HasBefore (Some end) count db → count ≡ length (rows_in line.placement db)
all_before db least end count start low none before =
    let kept = kept_in line.placement db in
    let from_0 = least_from_0 kept least start low in
    let behind : length (filter (is_from end) kept) ≡ 0 = ap length none in
    let many : length (rows_in line.placement db) ≡ length kept = length-map kept (columns line.placement) in
    omega (arith, before, from_0, behind, many)

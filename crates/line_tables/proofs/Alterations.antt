-- The effect of each kind of statement on the rows of its table.
use Rattle.desk_types.proofs.Common.{[], ◌&&◌, ◌∙◌, ◌∷◌, ◌≡◌, ap, ap₂, arith, Bool, cases_Bool, drop, false}
use Rattle.desk_types.proofs.Common.{filter, inl, inr, IsPermutation, IsPermutation-cons, IsPermutation-map}
use Rattle.desk_types.proofs.Common.{IsPermutation-refl, IsPermutation-sym, IsPermutation-trans, IsTrue}
use Rattle.desk_types.proofs.Common.{length, List, map, not, refl, subst, subst₂, sym, true, ℕ}
use Rattle.line_tables.proofs.Common.{AreApart, cast_row, Chosen, columns, Database, Has, ids_of, is_int}
use Rattle.line_tables.proofs.Common.{is_taken, IsPermutation-filter, Layout, one_permutation, put_all}
use Rattle.line_tables.proofs.Common.{put_row, Row, rowid, schema_of, State, Table, Term, Two, with_rowid}
use Rattle.line_tables.proofs.Common.{without_all}
use Rattle.line_tables.proofs.{Altering.Alters, Altering.IsKept, Altering.put_in, Altering.rows_at}
use Rattle.line_tables.proofs.{Altering.Steps, Altering.without, Apart.apart_filter, Apart.apart_put}
use Rattle.line_tables.proofs.{Apart.taken, Changes.Changed, Changes.passing, Changes.renewed}
use Rattle.line_tables.proofs.{Changes.shows_of, Inserts.Inserted, Puts.not_taken, Puts.put_permutes}
use Rattle.sqlite_rules.proofs.ListLemmas.{has_filtered}
use Rattle.sqlite_rules.specs.Edit.{are_fresh}

pub left_of : (columns_in : Row → Row) (m k : Row → Bool) → ((r : Row) → m r ≡ k (columns_in r)) → (rows : List Row) → map columns_in (filter (λ r. not (m r)) rows) ≡ filter (λ r. not (k r)) (map columns_in rows)
left_of columns_in m k is [] = refl
left_of columns_in m k is (r ∷ rows) = elim (cases_Bool (k (columns_in r))) [
  | inl it ↦ rw (is r, it, left_of columns_in m k is rows) refl
  | inr it ↦ rw (is r, it, left_of columns_in m k is rows) refl
]

module _ (table : Table) (has : Row → Bool) (old new : Database) (rows : List Row) (was : IsKept table old rows) (m : Row → Bool) (is : (r : Row) → m r ≡ has (columns table r)) where
  pub keeps_left : (left : List Row) → left ≡ filter (λ r. not (m r)) (old.trees table.tree) → IsPermutation (map (columns table) left) (without has rows)
  keeps_left left same =
      subst (λ l. IsPermutation l (without has rows)) (sym (ap (map (columns table)) same ∙ left_of (columns table) m has is (old.trees table.tree))) (IsPermutation-filter _ _ _ was.same)

  pub kept_without : new.trees table.tree ≡ filter (λ r. not (m r)) (old.trees table.tree) → IsKept table new (without has rows)
  kept_without same = record { same = keeps_left (new.trees table.tree) same; apart = subst AreApart (sym same) (apart_filter _ _ was.apart) }

pub rows_more : (table : Table) (left : List Row) (n values : Row) (rows : List Row) (new : Database) → IsPermutation (map (columns table) left) rows → is_taken left n ≡ false → columns table n ≡ values → new.trees table.tree ≡ put_row n left
    → IsPermutation (rows_at table new) (values ∷ rows)
rows_more table left n values rows new same free shown is =
    subst (λ l. IsPermutation (map (columns table) l) (values ∷ rows)) (sym is)
    (IsPermutation-trans _ _ _ (IsPermutation-map (columns table) _ _ (put_permutes left n free)) (subst (λ v. IsPermutation (v ∷ map (columns table) left) (values ∷ rows)) (sym shown) (IsPermutation-cons values _ _ same)))

pub kept_more : (table : Table) (left : List Row) (n values : Row) (rows : List Row) (new : Database) → IsPermutation (map (columns table) left) rows → AreApart left → is_taken left n ≡ false → IsTrue (is_int (rowid n)) → columns table n ≡ values
    → new.trees table.tree ≡ put_row n left → IsKept table new (values ∷ rows)
kept_more table left n values rows new same apart free keyed shown is = record { same = rows_more table left n values rows new same free shown is; apart = subst AreApart (sym is) (apart_put left n free keyed apart) }

-- ---- DELETE

pub deletes : (indexed : Layout) (table : Table) (has : Row → Bool) (tests project : List Term) (params : Row) (old new : State) → ((r : Row) → passing tests params r ≡ has (columns table r))
    → ((r : Row) → rowid (shows_of table.tree tests project params r) ≡ rowid r) → IsTrue old.is_open → (old.now.schema ≡ schema_of Two indexed → Changed (schema_of Two indexed) table tests project params (λ _. []) old new) → Alters indexed table (without has) old new
deletes indexed table has tests project params old new is begins was_open did = record {
  steps = record { was_open = was_open; same = λ ours. (did ours).same; sound = λ ours. (did ours).sound; others = λ ours. (did ours).others };
  rows = λ ours rows was.
      let h = did ours in
      kept_without table has old.now new.now rows was (passing tests params) is (h.rows ∙ taken (passing tests params) (old.now.trees table.tree) was.apart (shows_of table.tree tests project params) begins h.found h.are);
}

-- ---- UPDATE

pub no_length : {X : Type 0} (xs : List X) → 0 ≡ length xs → xs ≡ []
no_length [] h = refl
no_length (x ∷ xs) h = absurd (omega (arith, h))

one_length : {X : Type 0} (xs : List X) → 1 ≡ length xs → (x : X) × (xs ≡ x ∷ [])
one_length [] h = absurd (omega (arith, h))
one_length (x ∷ []) h = (x, refl)
one_length (x ∷ y ∷ xs) h = absurd (omega (arith, h))

pub one_of_map : {X Y : Type 0} (f : X → Y) (xs : List X) (y : Y) → map f xs ≡ y ∷ [] → (x : X) × (xs ≡ x ∷ []) × (f x ≡ y)
one_of_map f [] y h = absurd (cc)
one_of_map f (x ∷ []) y h = let same : f x ≡ y = cc in (x, refl, same)
one_of_map f (x ∷ z ∷ xs) y h = absurd (cc)

module _ (indexed : Layout) (table : Table) (has : Row → Bool) (tests project : List Term) (params values : Row) (old new : State) (is : (r : Row) → passing tests params r ≡ has (columns table r))
    (begins : (r : Row) → rowid (shows_of table.tree tests project params r) ≡ rowid r) (was_open : IsTrue old.is_open) (count : ℕ)
    (did : old.now.schema ≡ schema_of Two indexed → (h : Changed (schema_of Two indexed) table tests project params (renewed table) old new) × (count ≡ length h.found)) where
  abbrev show : Row → Row
  show = shows_of table.tree tests project params

  updates : Steps indexed table old new
  updates = record { was_open = was_open; same = λ ours. (did ours).0.same; sound = λ ours. (did ours).0.sound; others = λ ours. (did ours).0.others }

  pub updates_none : count ≡ 0 → Alters indexed table (without has) old new
  updates_none none = record {
    steps = updates;
    rows = λ ours rows was.
        let all = did ours in
        let h = all.0 in
        let m = passing tests params in
        let left : without_all (old.now.trees table.tree) (ids_of h.found) ≡ filter (λ r. not (m r)) (old.now.trees table.tree) = taken m (old.now.trees table.tree) was.apart show begins h.found h.are in
        let empty : h.found ≡ [] = no_length h.found (sym none ∙ all.1) in
        kept_without table has old.now new.now rows was m is (h.rows ∙ ap (λ f. put_all (without_all (old.now.trees table.tree) (ids_of h.found)) (renewed table f)) empty ∙ left);
  }

  pub updates_one : ((r : Row) → passing tests params r ≡ true → IsTrue (is_int (rowid r)) → IsTrue (is_int (rowid (cast_row table (drop 1 (show r))))) × (columns table (cast_row table (drop 1 (show r))) ≡ values))
      → count ≡ 1 → Alters indexed table (put_in has values) old new
  updates_one renews one = record {
    steps = updates;
    rows = λ ours rows was.
        let all = did ours in
        let h = all.0 in
        let m = passing tests params in
        let db = old.now.trees table.tree in
        let gone : without_all db (ids_of h.found) ≡ filter (λ r. not (m r)) db = taken m db was.apart show begins h.found h.are in
        let it = one_length h.found (sym one ∙ all.1) in
        let first = one_of_map show (filter m db) it.0 (one_permutation it.0 (map show (filter m db)) (IsPermutation-sym _ _ (subst (IsPermutation (map show (filter m db))) it.1 h.are))) in
        let there = has_filtered m db first.0 (subst (λ l. Has l first.0) (sym first.1) (inl refl)) in
        let new_row = cast_row table (drop 1 (show first.0)) in
        let fits = renews first.0 there.1 (was.apart.keyed first.0 there.0) in
        let news : renewed table h.found ≡ new_row ∷ [] = ap (renewed table) it.1 ∙ ap (λ s. cast_row table (drop 1 s) ∷ []) (sym first.2) in
        let left = filter (λ r. not (m r)) db in
        let fresh : are_fresh left (new_row ∷ []) ≡ true = subst₂ (λ l ns. are_fresh l ns ≡ true) gone news h.fresh in
        let free : is_taken left new_row ≡ false = not_taken (is_taken left new_row) fresh in
        kept_more table left new_row values (without has rows) new.now (keeps_left table has old.now new.now rows was m is left refl) (apart_filter _ _ was.apart) free fits.0 fits.1
        (h.rows ∙ ap₂ (λ l ns. put_all l ns) gone news);
  }

-- ---- INSERT

module _ (indexed : Layout) (table : Table) (r values : Row) (n : List Row → Row) (old new : State) (cast : (rows : List Row) → with_rowid Chosen rows (cast_row table r) ≡ n rows) (keyed : (rows : List Row) → IsTrue (is_int (rowid (n rows))))
    (shown : (rows : List Row) → columns table (n rows) ≡ values) (went : Inserted (schema_of Two indexed) table (r ∷ []) old new) where
  abbrev db : List Row
  db = old.now.trees table.tree

  free : is_taken db (n db) ≡ false
  free = not_taken (is_taken db (n db)) (subst (λ x. (not (is_taken db x) && true) ≡ true) (cast db) went.step.fresh)

  put : new.now.trees table.tree ≡ put_row (n db) db
  put = went.step.rows ∙ ap (λ x. put_row x db) (cast db)

  pub one_more : IsPermutation (rows_at table new.now) (values ∷ rows_at table old.now)
  one_more = rows_more table db (n db) values (rows_at table old.now) new.now (IsPermutation-refl (rows_at table old.now)) free (shown db) put

  more : (rows : List Row) → IsKept table old.now rows → IsKept table new.now (values ∷ rows)
  more rows was = kept_more table db (n db) values rows new.now was.same was.apart free (keyed db) (shown db) put

pub inserted_steps : (indexed : Layout) (table : Table) (rows : List Row) (old new : State) → IsTrue old.is_open → (old.now.schema ≡ schema_of Two indexed → Inserted (schema_of Two indexed) table rows old new) → Steps indexed table old new
inserted_steps indexed table rows old new was_open did = record { was_open = was_open; same = λ ours. (did ours).same; sound = λ ours. (did ours).sound; others = λ ours. (did ours).step.tables }

pub inserts : (indexed : Layout) (table : Table) (r values : Row) (n : List Row → Row) (old new : State) → ((rows : List Row) → with_rowid Chosen rows (cast_row table r) ≡ n rows) → ((rows : List Row) → IsTrue (is_int (rowid (n rows))))
    → ((rows : List Row) → columns table (n rows) ≡ values) → IsTrue old.is_open → (old.now.schema ≡ schema_of Two indexed → Inserted (schema_of Two indexed) table (r ∷ []) old new) → Alters indexed table (λ rows. values ∷ rows) old new
inserts indexed table r values n old new cast keyed shown was_open did = record {
  steps = inserted_steps indexed table (r ∷ []) old new was_open did;
  rows = λ ours rows was. more indexed table r values n old new cast keyed shown (did ours) rows was;
}

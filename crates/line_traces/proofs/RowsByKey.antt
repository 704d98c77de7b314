-- Rows found by their keys are those of a list of entries.
use Rattle.desk_types.proofs.Common.{[], ◌++◌, ◌∙◌, ◌∷◌, ◌≡◌, AllByRecursion, ap, Bool, cond, false, filter}
use Rattle.desk_types.proofs.Common.{if◌then◌else◌, is_at, IsPermutation, IsPermutation-cons}
use Rattle.desk_types.proofs.Common.{IsPermutation-refl, IsPermutation-trans, IsStrictlySortedBy, IsTrue}
use Rattle.desk_types.proofs.Common.{keys_of, Less, List, map, None, not, option_map, option_to_list}
use Rattle.desk_types.proofs.Common.{Ordering, refl, Some, subst, sym, true, true≢false}
use Rattle.sqlite_trees.proofs.ListLemmas.{filter-filter}
use Rattle.state_rows.specs.Kept.{row_at}
use Rattle.std.proofs.lemmas.List.Sorted.{IsPermutation-filter_both}

-- ---- rows that do not pass

module _ {A : Type 0} (p : A → Bool) where
  abbrev rest : List A → List A
  rest xs = filter (λ x. not (p x)) xs

  none-left : (xs : List A) → filter p (rest xs) ≡ []
  none-left [] = refl
  none-left (x ∷ xs) = by (p x) refl (none-left xs)
    where
      by : (b : Bool) → p x ≡ b → filter p (rest xs) ≡ [] → filter p (if not b then x ∷ rest xs else rest xs) ≡ []
      by true is none = none
      by false is none = rw is none

  all-left : (P : A → Type 0) (xs : List A) → AllByRecursion P xs → AllByRecursion P (rest xs)
  all-left P [] all = tt
  all-left P (x ∷ xs) (first, all) = by (p x) (all-left P xs all)
    where
      by : (b : Bool) → AllByRecursion P (rest xs) → AllByRecursion P (if not b then x ∷ rest xs else rest xs)
      by true more = more
      by false more = (first, more)

-- ---- entries

module _ {K X R : Type 0} (cmp : K → K → Ordering) (has : K → R → Bool) (columns : K → X → R) (itself : (k : K) → is_at (cmp k) k ≡ true) (one : (k l : K) → is_at (cmp k) l ≡ true → k ≡ l)
    (apart : (k l : K) (row : R) → has k row ≡ true → has l row ≡ true → k ≡ l) where
  -- The rows with each key are those of the entries.
  abbrev AreFound : List (K × X) → List R → Type 0
  AreFound es rows = (k : K) → filter (has k) rows ≡ option_to_list (option_map (columns k) (row_at cmp es k))

  none-at : (k : K) (es : List (K × X)) → AllByRecursion (λ l. cmp k l ≡ Less) (keys_of es) → row_at cmp es k ≡ None
  none-at k [] above = refl
  none-at k (e ∷ es) (first, above) = rw first (none-at k es above)

  others : (k l : K) → is_at (cmp k) l ≡ false → (rows : List R) → filter (has k) (rest (has l) rows) ≡ filter (has k) rows
  others k l away rows = filter-filter (has k) (λ r. not (has l r)) (λ r here. by r here (has l r) refl) rows
    where
      by : (r : R) → has k r ≡ true → (b : Bool) → has l r ≡ b → not b ≡ true
      by r here true there = let same = apart k l r here there in absurd (true≢false (sym (itself k) ∙ ap (λ m. is_at (cmp k) m) same ∙ away))
      by r here false there = refl

  rest-found : (e : K × X) (es : List (K × X)) (rows : List R) → AllByRecursion (λ l. cmp e.0 l ≡ Less) (keys_of es) → AreFound (e ∷ es) rows → AreFound es (rest (has e.0) rows)
  rest-found e es rows above found k = by (is_at (cmp k) e.0) refl (found k)
    where
      by : (b : Bool) → is_at (cmp k) e.0 ≡ b → filter (has k) rows ≡ option_to_list (option_map (columns k) (cond b (Some e.1) (row_at cmp es k)))
          → filter (has k) (rest (has e.0) rows) ≡ option_to_list (option_map (columns k) (row_at cmp es k))
      by true is there =
          let same = one k e.0 is in
          subst (λ l. filter (has l) (rest (has e.0) rows) ≡ option_to_list (option_map (columns l) (row_at cmp es l))) (sym same) (
          none-left (has e.0) rows ∙ sym (ap (λ o. option_to_list (option_map (columns e.0) o)) (none-at e.0 es above)))
      by false is there = others k e.0 is rows ∙ there

  none-keyed : (rows : List R) → AreFound [] rows → AllByRecursion (λ row. (k : K) × IsTrue (has k row)) rows → rows ≡ []
  none-keyed [] found keyed = refl
  none-keyed (r ∷ rows) found (key, keyed) = by (has key.0 r) refl (found key.0)
    where
      by : (b : Bool) → has key.0 r ≡ b → (if b then r ∷ filter (has key.0) rows else filter (has key.0) rows) ≡ [] → r ∷ rows ≡ []
      by true is none = cc
      by false is none = let yes = key.1 in cc

  pub rows-listed : (es : List (K × X)) (rows : List R) → IsStrictlySortedBy cmp (keys_of es) → AreFound es rows → AllByRecursion (λ row. (k : K) × IsTrue (has k row)) rows
      → IsPermutation rows (map (λ (e : K × X). columns e.0 e.1) es)
  unfolding IsStrictlySortedBy
  rows-listed [] rows sorted found keyed = subst (λ l. IsPermutation l []) (sym (none-keyed rows found keyed)) (IsPermutation-refl [])
  rows-listed (e ∷ es) rows (above, sorted) found keyed =
      let first : filter (has e.0) rows ≡ columns e.0 e.1 ∷ [] =
      found e.0 ∙ ap (λ b. option_to_list (option_map (columns e.0) (cond b (Some e.1) (row_at cmp es e.0)))) (itself e.0) in
      IsPermutation-trans _ _ _
      (subst (λ l. IsPermutation rows (l ++ rest (has e.0) rows)) first (IsPermutation-filter_both (has e.0) (λ r. not (has e.0 r)) (λ r. refl) rows))
      (IsPermutation-cons (columns e.0 e.1) _ _ (rows-listed es (rest (has e.0) rows) sorted (rest-found e es rows above found) (all-left (has e.0) _ rows keyed)))

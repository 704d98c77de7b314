-- The entries of a table, and sets that are filled from them.
use Rattle.desk_types.proofs.Common.{[], ◌||◌, ◌∙◌, ◌∷◌, ◌≡◌, AllByRecursion, ap, Bool, false, is_at, is_eq}
use Rattle.desk_types.proofs.Common.{IsStrictlySortedBy, IsTotalOrder, keys_of, Less, List, None, Option}
use Rattle.desk_types.proofs.Common.{Ordering, ordering_reverse, refl, Some, sym, true}
use Rattle.state_rows.specs.Kept.{Lists, row_at}
use Rattle.std.proofs.lemmas.Map.Entries.{lookup_head, lookup_tail}
use Rattle.std.specs.Cmp.{eq_by_cmp_equiv, tied_itself}

-- Each entry is a row of the table.
abbrev pub AreOf : {K X : Type 0} → (K → Option X) → List (K × X) → Type 0
AreOf {K} {X} table entries = AllByRecursion (λ (e : K × X). table e.0 ≡ Some e.1) entries

module _ {K X : Type 0} (cmp : K → K → Ordering) (o : IsTotalOrder cmp) where
  kept : (e : K × X) (all xs : List (K × X)) → AllByRecursion (λ k. cmp e.0 k ≡ Less) (keys_of xs) → AreOf (row_at cmp all) xs → AreOf (row_at cmp (e ∷ all)) xs
  kept e all [] above found = tt
  kept e all (x ∷ xs) (less, above) (first, found) =
      (lookup_tail (is_at (cmp x.0)) e all (ap is_eq (o.antisymm x.0 e.0 ∙ ap ordering_reverse less)) ∙ first, kept e all xs above found)

  each-found : (es : List (K × X)) → IsStrictlySortedBy cmp (keys_of es) → AreOf (row_at cmp es) es
  unfolding IsStrictlySortedBy
  each-found [] up = tt
  each-found (e ∷ es) (above, up) = (lookup_head (is_at (cmp e.0)) e es (ap is_eq (tied_itself o e.0)), kept e es es above (each-found es up))

  of-table : (found table : K → Option X) → ((k : K) → found k ≡ table k) → (es : List (K × X)) → AreOf found es → AreOf table es
  of-table found table is [] all = tt
  of-table found table is (e ∷ es) (first, all) = (sym (is e.0) ∙ first, of-table found table is es all)

  pub each-of : (es : List (K × X)) (table : K → Option X) → Lists cmp es table → AreOf table es
  each-of es table lists = of-table (row_at cmp es) table lists.rows es (each-found es lists.ascending)

  pub others : (e : K × X) (left : List (K × X)) (q : K) → is_at (cmp e.0) q ≡ false → row_at cmp left q ≡ None → row_at cmp (e ∷ left) q ≡ None
  others e left q away none = lookup_tail (is_at (cmp q)) e left ((eq_by_cmp_equiv o).symm q e.0 ∙ away) ∙ none

-- ---- sets

pub set-next : (now new here rest all : Bool) → new ≡ (here || now) → (now || (here || rest)) ≡ all → (new || rest) ≡ all
set-next now new here rest all put before = ap (λ b. b || rest) put ∙ by here now rest ∙ before
  where
    by : (h n r : Bool) → ((h || n) || r) ≡ (n || (h || r))
    by true true r = refl
    by true false r = refl
    by false n r = refl

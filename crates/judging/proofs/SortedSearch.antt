-- Binary search in sorted names.
use Rattle.desk_types.proofs.Common.{[], ◌<◌, ◌∙◌, ◌≡◌, ◌≤◌, ◌⊎◌, All, ap, arith, by_name, cases_lt, Equal}
use Rattle.desk_types.proofs.Common.{Err, false, get_or, Greater, inl, inr, is_at-by_name, is_eq, is_ok}
use Rattle.desk_types.proofs.Common.{length, Less, List, list_any, Name, nat_list_cmp_total, Ok, Ordering}
use Rattle.desk_types.proofs.Common.{Result, same, same-sym, sym, ℕ}
use Rattle.std.proofs.lemmas.List.Folds.{list_any_at, list_any_none}
use Rattle.std.proofs.lemmas.List.Sorted.{searchable_from_sorted}
use Rattle.std.specs.List.Sorted.{IsBinarySearchResult, IsPartitionPoint, IsSearchInRange, IsSorted}

ties : (x y : Name) (order : Ordering) → by_name y x ≡ order → same x y ≡ is_eq order
ties x y order is = same-sym x y ∙ sym (is_at-by_name y x) ∙ ap is_eq is

pub found-or-not : (names : List Name) (x : Name) (r : Result ℕ ℕ) → IsSorted by_name names → IsSearchInRange r (length names)
    → IsBinarySearchResult (λ y. by_name y x) names r → is_ok r ≡ list_any (same x) names
found-or-not names x (Ok i) sorted inside at = sym (list_any_at (same x) names i [] inside (ties x (get_or names i []) Equal (at [])))
found-or-not names x (Err i) sorted inside between = sym (list_any_none (same x) names none)
  where
    parts : IsPartitionPoint (λ y. by_name y x ≡ Less) (λ y. by_name y x ≡ Greater) names i
    parts = between (searchable_from_sorted nat_list_cmp_total (λ y. y) names x sorted)

    on : (k : ℕ) (d : Name) → (k < i) ⊎ (i ≤ k) → k < length names → same x (get_or names k d) ≡ false
    on k d (inl before) below = ties x (get_or names k d) Less (parts.0 k d (omega arith) before)
    on k d (inr after) below = ties x (get_or names k d) Greater (parts.1 k d after below)

    none : All (λ y. same x y ≡ false) names
    none k d below = on k d (cases_lt k i) below

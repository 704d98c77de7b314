-- What holds of each listed key holds of each key of the table.
use Rattle.desk_types.proofs.Common.{[], ◌||◌, ◌∷◌, ◌≡◌, AllByRecursion, Bool, CmpEqualImpliesEq, cond, false}
use Rattle.desk_types.proofs.Common.{is_at, is_some, List, Ordering, refl, Some, subst, sym, true}
use Rattle.state_rows.specs.Kept.{has_key, row_at}
use Rattle.std.specs.Cmp.{Equal-is}

module _ {K : Type 0} (cmp : K → K → Ordering) (exact : CmpEqualImpliesEq cmp) (Good : K → Type 0) where
  same-key : (k q : K) → is_at (cmp k) q ≡ true → q ≡ k
  same-key k q at = sym (exact k q ((Equal-is (cmp k q)).0 at))

  pub covered-keys : (ks : List K) (k : K) → AllByRecursion Good ks → has_key cmp ks k ≡ true → Good k
  covered-keys [] k all has = cc
  covered-keys (q ∷ ks) k (good, all) has = by (is_at (cmp k) q) refl has (covered-keys ks k all)
    where
      by : (b : Bool) → is_at (cmp k) q ≡ b → (b || has_key cmp ks k) ≡ true → (has_key cmp ks k ≡ true → Good k) → Good k
      by true at has later = subst Good (same-key k q at) good
      by false at has later = later has

  pub covered-rows : {X : Type 0} (es : List (K × X)) (k : K) → AllByRecursion (λ (e : K × X). Good e.0) es → is_some (row_at cmp es k) ≡ true → Good k
  covered-rows [] k all has = cc
  covered-rows (e ∷ es) k (good, all) has = by (is_at (cmp k) e.0) refl has (covered-rows es k all)
    where
      by : (b : Bool) → is_at (cmp k) e.0 ≡ b → is_some (cond b (Some e.1) (row_at cmp es k)) ≡ true → (is_some (row_at cmp es k) ≡ true → Good k) → Good k
      by true at has later = subst Good (same-key k e.0 at) good
      by false at has later = later has

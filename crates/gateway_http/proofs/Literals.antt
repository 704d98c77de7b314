-- A router of paths without parameters finds exactly the row with the requested path.
use Rattle.desk_types.proofs.Common.{[], ◌-◌, ◌<◌, ◌==◌, ◌∙◌, ◌∷◌, ◌≡◌, ap, arith, Bool, cond, false, length}
use Rattle.desk_types.proofs.Common.{List, map, nat_tests, None, Option, refl, rules, same, Some, suc, sym}
use Rattle.desk_types.proofs.Common.{true, zero, ℕ}
use Rattle.gateway_http.{specs.Routes.route_of, specs.Routes.route_path, specs.Routes.routes}
use Rattle.gateway_http.{specs.Routes.row, specs.Routes.table, specs.declared.routes.Route.Route}
use Rattle.matchit.{specs.Level.IsText, specs.Rows.catch_all_token, specs.Rows.param_token, specs.Rows.RowsOf}
use Rattle.matchit.{specs.Seek.first, specs.Seek.has_slash, specs.Seek.or_else, specs.Seek.own}
use Rattle.matchit.{specs.Seek.param_step, specs.Seek.same_text, specs.Seek.seek, specs.Seek.step}
use Rattle.std.{proofs.Common.option_map, specs.List.find}

module _ {K : Type 0} where
  -- No row has a parameter.
  abbrev AreLiteral : RowsOf K → Type 0
  AreLiteral [] = Unit {0}
  AreLiteral ((t, k) ∷ rest) = IsText t × AreLiteral rest

  -- The row whose text is the path.
  abbrev row_at : List ℕ → RowsOf K → Option K
  row_at path [] = None
  row_at path ((t, k) ∷ rest) = cond (same_text t path) (Some k) (row_at path rest)

  param-none : (p : List ℕ) → (param_step {K = K} [] p).1 ≡ []
  unfolding param_step
  param-none p = elim (has_slash p) as (λ v. (cond {A = ℕ × RowsOf K} v (0, []) (length p, [])).1 ≡ []) [
    | true ↦ refl
    | false ↦ refl
  ]

  seek-none : (n : ℕ) (path : List ℕ) → seek {K = K} n [] path ≡ None
  unfolding seek
  seek-none n [] = refl
  seek-none (suc n) (b ∷ p) = seek-none n p
  seek-none zero (b ∷ p) = simp (seek-none 0 p, param-none (b ∷ p), seek-none (((param_step {K = K} [] (b ∷ p)).0) - 1) p)

  step-literal : (x : ℕ) (rs : RowsOf K) → AreLiteral rs → (x < 256 → ⊥) → step x rs ≡ []
  step-literal x [] h n = refl
  step-literal x (([], k) ∷ rest) h n = step-literal x rest h.1 n
  step-literal x ((y ∷ t, k) ∷ rest) h n =
      let e : (y == x) ≡ false = grind (arith, nat_tests) in
      rw e (step-literal x rest h.1 n)

  keeps-literal : (b : ℕ) (rs : RowsOf K) → AreLiteral rs → AreLiteral (step b rs)
  keeps-literal b [] h = tt
  keeps-literal b (([], k) ∷ rest) h = keeps-literal b rest h.1
  keeps-literal b ((y ∷ t, k) ∷ rest) h =
      elim (y == b) as (λ v. AreLiteral (cond v ((t, k) ∷ step b rest) (step b rest))) [
        | true ↦ (h.0.1, keeps-literal b rest h.1)
        | false ↦ keeps-literal b rest h.1
      ]

  row_at-step : (b : ℕ) (p : List ℕ) (rs : RowsOf K) → row_at (b ∷ p) rs ≡ row_at p (step b rs)
  row_at-step b p [] = refl
  row_at-step b p (([], k) ∷ rest) = row_at-step b p rest
  row_at-step b p ((y ∷ t, k) ∷ rest) = by (y == b) refl (row_at-step b p rest)
    where
      by : (v : Bool) → (y == b) ≡ v → row_at (b ∷ p) rest ≡ row_at p (step b rest) → row_at (b ∷ p) ((y ∷ t, k) ∷ rest) ≡ row_at p (step b ((y ∷ t, k) ∷ rest))
      by true e ih = rw e (ap (λ o. cond (same_text t p) (Some k) o) ih)
      by false e ih = rw e ih

  row_at-own : (rs : RowsOf K) → row_at [] rs ≡ own rs
  row_at-own [] = refl
  row_at-own (([], k) ∷ rest) = refl
  row_at-own ((y ∷ t, k) ∷ rest) = row_at-own rest

  or-none : (o : Option K) → or_else o None ≡ o
  or-none None = refl
  or-none (Some k) = refl

  first-literal : (path : List ℕ) (rs : RowsOf K) → AreLiteral rs → first rs path ≡ row_at path rs
  unfolding seek
  first-literal [] rs h = sym (row_at-own rs)
  first-literal (b ∷ p) rs h =
      let a = step-literal param_token rs h (λ e. omega arith) in
      let c = step-literal catch_all_token rs h (λ e. omega arith) in
      rw (a, c, param-none (b ∷ p), seek-none ((param_step {K = K} [] (b ∷ p)).0 - 1) p, or-none (seek 0 (step b rs) p))
      (first-literal p (step b rs) (keeps-literal b rs h) ∙ sym (row_at-step b p rs))

table-literal : AreLiteral table
table-literal = search rules

row_at-routes : (path : List ℕ) (rs : List Route) → option_map (λ e. e.value) (row_at path (map row rs)) ≡ find (λ r. same (route_path r) path) rs
row_at-routes path [] = refl
row_at-routes path (r ∷ rs) = by (same (route_path r) path) refl (row_at-routes path rs)
  where
    by : (b : Bool) → same (route_path r) path ≡ b → option_map (λ e. e.value) (row_at path (map row rs)) ≡ find (λ r. same (route_path r) path) rs
        → option_map (λ e. e.value) (row_at path (map row (r ∷ rs))) ≡ find (λ r. same (route_path r) path) (r ∷ rs)
    by true e later = rw e refl
    by false e later = rw e later

pub first-table : (path : List ℕ) → option_map (λ e. e.value) (first table path) ≡ route_of path
unfolding route_of
first-table path = ap (option_map (λ e. e.value)) (first-literal path table table-literal) ∙ row_at-routes path routes

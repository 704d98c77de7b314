-- If the rows of all entries are in the table, and the table has no more rows, each is the only one with its key.
use Rattle.desk_types.proofs.Common.{[], ◌∙◌, ◌∷◌, ◌≡◌, ◌≤◌, ◌⊎◌, AllByRecursion, ap, arith, Bool, false}
use Rattle.desk_types.proofs.Common.{filter, if◌then◌else◌, inl, inr, length, List, not, refl, sym, true}
use Rattle.desk_types.proofs.Common.{true≢false}
use Rattle.line_tables.proofs.Common.{Has, Row}
use Rattle.line_replay.proofs.SameRows.{lengths, others, without}
use Rattle.line_replay.specs.Alone.{AreAlone, AreApart, IsNew}

in_filter : (test : Row → Bool) (rows : List Row) (x : Row) → Has rows x → test x ≡ true → Has (filter test rows) x
in_filter test [] x h passed = absurd h
in_filter test (r ∷ rs) x h passed = go (test r) refl h (λ more. in_filter test rs x more passed)
  where
    go : (b : Bool) → test r ≡ b → (x ≡ r) ⊎ Has rs x → (Has rs x → Has (filter test rs) x) → Has (if b then r ∷ filter test rs else filter test rs) x
    go true e (inl is) more = inl is
    go true e (inr h) more = inr (more h)
    go false e (inl is) more = absurd (true≢false (sym passed ∙ ap test is ∙ e))
    go false e (inr h) more = more h

some : (rows : List Row) (x : Row) → Has rows x → 1 ≤ length rows
some [] x h = absurd h
some (r ∷ rs) x h = omega arith

only_one : (rows : List Row) (x : Row) → Has rows x → length rows ≡ 1 → rows ≡ x ∷ []
only_one [] x h n = absurd h
only_one (r ∷ []) x (inl is) n = ap (λ (y : Row). y ∷ []) (sym is)
only_one (r ∷ []) x (inr h) n = absurd h
only_one (r ∷ s ∷ rs) x h n = absurd (omega (arith, n))

module _ {K R : Type 0} (has : K → Row → Bool) (columns : K → R → Row) (one_key : (k l : K) (row : Row) → has k row ≡ true → has l row ≡ true → k ≡ l) where
  -- The rows of the entries have their keys, and are in the table.
  abbrev pub AreTrue : List (K × R) → Type 0
  AreTrue es = AllByRecursion (λ e. has e.0 (columns e.0 e.1) ≡ true) es

  abbrev pub AreIn : List Row → List (K × R) → Type 0
  AreIn rows es = AllByRecursion (λ e. Has rows (columns e.0 e.1)) es

  still_in : (k : K) (es : List (K × R)) → IsNew k es → AreTrue es → (rows : List Row) → AreIn rows es → AreIn (without has columns one_key k rows) es
  still_in k [] new named rows h = tt
  still_in k (e ∷ es) new named rows h = (in_filter (λ row. not (has k row)) rows (columns e.0 e.1) h.0 (go (has k (columns e.0 e.1)) refl), still_in k es new.1 named.1 rows h.1)
    where
      go : (b : Bool) → has k (columns e.0 e.1) ≡ b → not b ≡ true
      go true is = absurd (new.0 (one_key k e.0 (columns e.0 e.1) is named.0))
      go false is = refl

  at_most : (es : List (K × R)) → AreApart es → AreTrue es → (rows : List Row) → AreIn rows es → length es ≤ length rows
  at_most [] apart named rows h = omega arith
  at_most (e ∷ es) apart named rows h =
      let more = at_most es apart.1 named.1 (without has columns one_key e.0 rows) (still_in e.0 es apart.0 named.1 rows h.1) in
      let one = some _ (columns e.0 e.1) (in_filter (has e.0) rows (columns e.0 e.1) h.0 named.0) in
      omega (arith, more, one, lengths has columns one_key e.0 rows)

  back : (k : K) (es : List (K × R)) → IsNew k es → (rows : List Row) → AreAlone has columns (without has columns one_key k rows) es → AreAlone has columns rows es
  back k [] new rows h = tt
  back k (e ∷ es) new rows h = (sym (others has columns one_key k e.0 new.0 rows) ∙ h.0, back k es new.1 rows h.1)

  pub alone_by_count : (es : List (K × R)) → AreApart es → AreTrue es → (rows : List Row) → AreIn rows es → length es ≡ length rows → AreAlone has columns rows es
  alone_by_count [] apart named rows h n = tt
  alone_by_count (e ∷ es) apart named rows h n =
      let rest = without has columns one_key e.0 rows in
      let inside = still_in e.0 es apart.0 named.1 rows h.1 in
      let more = at_most es apart.1 named.1 rest inside in
      let here = in_filter (has e.0) rows (columns e.0 e.1) h.0 named.0 in
      let one = some _ (columns e.0 e.1) here in
      let parts = lengths has columns one_key e.0 rows in
      (only_one _ (columns e.0 e.1) here (omega (arith, more, one, parts, n)), back e.0 es apart.0 rows (alone_by_count es apart.1 named.1 rest inside (omega (arith, more, one, parts, n))))

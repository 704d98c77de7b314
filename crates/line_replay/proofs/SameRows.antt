-- If each entry's row is the only one with its key, and there are as many entries as rows, the rows are those of the
-- map.
use Rattle.desk_types.proofs.Common.{[], ◌+◌, ◌↔◌, ◌∙◌, ◌∷◌, ◌≡◌, AllByRecursion, ap, arith, Bool, false}
use Rattle.desk_types.proofs.Common.{filter, if◌then◌else◌, inl, inr, IsTrue, length, List, None, not, Option}
use Rattle.desk_types.proofs.Common.{option_map, option_to_list, refl, Some, subst, sym, true, true≢false}
use Rattle.line_tables.proofs.Common.{all_weaker, AreRows, Row}
use Rattle.line_replay.specs.Alone.{AreAlone, AreApart, IsNamed, IsNew, Listed}
use Rattle.line_tables.proofs.Numbers.{some_same}

module _ {K R : Type 0} (has : K → Row → Bool) (columns : K → R → Row) (one_key : (k l : K) (row : Row) → has k row ≡ true → has l row ≡ true → k ≡ l) where
  abbrev pub without : K → List Row → List Row
  without k rows = filter (λ row. not (has k row)) rows

  -- The row has the key of some entry.
  abbrev IsCovered : List (K × R) → Row → Type 0
  IsCovered es row = (k : K) × IsNamed k es × (has k row ≡ true)

  pub others : (k l : K) → (k ≡ l → ⊥) → (rows : List Row) → filter (has l) (without k rows) ≡ filter (has l) rows
  others k l other [] = refl
  others k l other (r ∷ rs) = go (has k r) refl (others k l other rs)
    where
      step : (c : Bool) → has k r ≡ true → has l r ≡ c → filter (has l) (without k rs) ≡ filter (has l) rs → filter (has l) (without k rs) ≡ (if c then r ∷ filter (has l) rs else filter (has l) rs)
      step true one two more = absurd (other (one_key k l r one two))
      step false one two more = more

      go : (b : Bool) → has k r ≡ b → filter (has l) (without k rs) ≡ filter (has l) rs → filter (has l) (if not b then r ∷ without k rs else without k rs) ≡ (if has l r then r ∷ filter (has l) rs else filter (has l) rs)
      go false e more = ap (λ rest. if has l r then r ∷ rest else rest) more
      go true e more = step (has l r) e refl more

  pub lengths : (k : K) (rows : List Row) → length (filter (has k) rows) + length (without k rows) ≡ length rows
  lengths k [] = refl
  lengths k (r ∷ rs) = go (has k r) (lengths k rs)
    where
      go : (b : Bool) → length (filter (has k) rs) + length (without k rs) ≡ length rs
          → length (if b then r ∷ filter (has k) rs else filter (has k) rs) + length (if not b then r ∷ without k rs else without k rs) ≡ length (r ∷ rs)
      go true more = omega (arith, more)
      go false more = omega (arith, more)

  still_alone : (k : K) (es : List (K × R)) → IsNew k es → (rows : List Row) → AreAlone has columns rows es → AreAlone has columns (without k rows) es
  still_alone k [] new rows h = tt
  still_alone k (e ∷ es) new rows h = (others k e.0 new.0 rows ∙ h.0, still_alone k es new.1 rows h.1)

  from_rest : (k : K) (P : Row → Type 0) → ((r : Row) → has k r ≡ true → P r) → (rows : List Row) → AllByRecursion P (without k rows) → AllByRecursion P rows
  from_rest k P passed [] h = tt
  from_rest k P passed (r ∷ rs) h = go (has k r) refl (from_rest k P passed rs) h
    where
      go : (b : Bool) → has k r ≡ b → (AllByRecursion P (without k rs) → AllByRecursion P rs) → AllByRecursion P (if not b then r ∷ without k rs else without k rs) → P r × AllByRecursion P rs
      go true e more h = (passed r e, more h)
      go false e more h = (h.0, more h.1)

  to_rest : (k : K) (P Q : Row → Type 0) → ((r : Row) → has k r ≡ false → P r → Q r) → (rows : List Row) → AllByRecursion P rows → AllByRecursion Q (without k rows)
  to_rest k P Q failed [] h = tt
  to_rest k P Q failed (r ∷ rs) h = go (has k r) refl (to_rest k P Q failed rs h.1)
    where
      go : (b : Bool) → has k r ≡ b → AllByRecursion Q (without k rs) → AllByRecursion Q (if not b then r ∷ without k rs else without k rs)
      go true e more = more
      go false e more = (failed r e h.0, more)

  covered : (es : List (K × R)) → AreApart es → (rows : List Row) → AreAlone has columns rows es → length es ≡ length rows → AllByRecursion (IsCovered es) rows
  covered [] new [] h n = tt
  covered [] new (r ∷ rs) h n = absurd (omega (arith, n))
  covered (e ∷ es) new rows h n =
      let one = ap length h.0 in
      let more = covered es new.1 (without e.0 rows) (still_alone e.0 es new.0 rows h.1) (omega (arith, lengths e.0 rows, one, n)) in
      from_rest e.0 (IsCovered (e ∷ es)) (λ r is. (e.0, inl refl, is)) rows (all_weaker (IsCovered es) (IsCovered (e ∷ es)) (λ r c. (c.0, inr c.1, c.2)) (without e.0 rows) more)

  counted : (es : List (K × R)) → AreApart es → (rows : List Row) → AreAlone has columns rows es → AllByRecursion (IsCovered es) rows → length es ≡ length rows
  counted [] new [] h c = refl
  counted [] new (r ∷ rs) h c = absurd c.0.1
  counted (e ∷ es) new rows h c =
      let one = ap length h.0 in
      let more = counted es new.1 (without e.0 rows) (still_alone e.0 es new.0 rows h.1) (to_rest e.0 (IsCovered (e ∷ es)) (IsCovered es) other rows c) in
      omega (arith, lengths e.0 rows, one, more)
    where
      other : (r : Row) → has e.0 r ≡ false → IsCovered (e ∷ es) r → IsCovered es r
      other r failed (k, inl is, passed) = absurd (true≢false (sym passed ∙ ap (λ (l : K). has l r) is ∙ failed))
      other r failed (k, inr more, passed) = (k, more, passed)

  module _ (f : K → Option R) where
    named_alone : (es : List (K × R)) (rows : List Row) → AllByRecursion (λ e. f e.0 ≡ Some e.1) es → AreAlone has columns rows es → (k : K) → IsNamed k es → (r : R) × (f k ≡ Some r) × (filter (has k) rows ≡ columns k r ∷ [])
    named_alone [] rows each h k named = absurd named
    named_alone (e ∷ es) rows each h k (inl is) = (e.1, ap f is ∙ each.0, ap (λ (l : K). filter (has l) rows) is ∙ h.0 ∙ sym (ap (λ (l : K). columns l e.1 ∷ []) is))
    named_alone (e ∷ es) rows each h k (inr more) = named_alone es rows each.1 h.1 k more

    none_pass : (es : List (K × R)) (k : K) → (IsNamed k es → ⊥) → (rows : List Row) → AllByRecursion (IsCovered es) rows → filter (has k) rows ≡ []
    none_pass es k unnamed [] h = refl
    none_pass es k unnamed (r ∷ rs) h = go (has k r) refl (none_pass es k unnamed rs h.1)
      where
        go : (b : Bool) → has k r ≡ b → filter (has k) rs ≡ [] → (if b then r ∷ filter (has k) rs else filter (has k) rs) ≡ []
        go true e more = absurd (unnamed (subst (λ (l : K). IsNamed l es) (one_key h.0.0 k r h.0.2 e) h.0.1))
        go false e more = more

    are_rows : (es : List (K × R)) (rows : List Row) → Listed es f → AreAlone has columns rows es → length es ≡ length rows → AreRows has columns rows f
    are_rows es rows listed h n =
        let over = covered es listed.distinct rows h n in
        record { found = λ k. go over k (f k) refl; keyed = all_weaker (IsCovered es) (λ row. (k : K) × IsTrue (has k row)) (λ r c. (c.0, c.2)) rows over }
      where
        go : AllByRecursion (IsCovered es) rows → (k : K) (o : Option R) → f k ≡ o → filter (has k) rows ≡ option_to_list (option_map (columns k) o)
        go over k None e = none_pass es k (λ named. let w = named_alone es rows listed.each h k named in let clash : ◌≡◌ {A = Option R} None (Some w.0) = sym e ∙ w.1 in cc) rows over
        go over k (Some r) e = let w = named_alone es rows listed.each h k (listed.all k r e) in w.2 ∙ ap (λ (x : R). columns k x ∷ []) (some_same (sym w.1 ∙ e))

    module _ (rows : List Row) (are : AreRows has columns rows f) where
      alone_of : (es : List (K × R)) → AllByRecursion (λ e. f e.0 ≡ Some e.1) es → AreAlone has columns rows es
      alone_of [] each = tt
      alone_of (e ∷ es) each = (are.found e.0 ∙ ap (λ (o : Option R). option_to_list (option_map (columns e.0) o)) each.0, alone_of es each.1)

    covered_of : (es : List (K × R)) → Listed es f → (rows : List Row) → ((k : K) → f k ≡ None → filter (has k) rows ≡ []) → AllByRecursion (λ row. (k : K) × IsTrue (has k row)) rows → AllByRecursion (IsCovered es) rows
    covered_of es listed [] none keyed = tt
    covered_of es listed (r ∷ rs) none keyed = (go (f keyed.0.0) refl, covered_of es listed rs (λ k e. tail (has k r) (filter (has k) rs) (none k e)) keyed.1)
      where
        tail : (b : Bool) (rest : List Row) → (if b then r ∷ rest else rest) ≡ [] → rest ≡ []
        tail true rest e = absurd (let n = ap length e in omega (arith, n))
        tail false rest e = e

        go : (o : Option R) → f keyed.0.0 ≡ o → IsCovered es r
        go (Some x) e = (keyed.0.0, listed.all keyed.0.0 x e, keyed.0.1)
        go None e = absurd (let n = ap length (subst (λ (b : Bool). (if b then r ∷ filter (has keyed.0.0) rs else filter (has keyed.0.0) rs) ≡ []) keyed.0.1 (none keyed.0.0 e)) in omega (arith, n))

    -- The rows are those of the map exactly when each entry's row is the only one with its key, and there are as many
    -- rows.
    pub same_rows : (es : List (K × R)) (rows : List Row) → Listed es f → (AreAlone has columns rows es × (length es ≡ length rows)) ↔ AreRows has columns rows f
    same_rows es rows listed = (
      λ h. are_rows es rows listed h.0 h.1,
      λ are. let alone = alone_of rows are es listed.each in
          (alone, counted es listed.distinct rows alone (covered_of es listed rows (λ k e. are.found k ∙ ap (λ (o : Option R). option_to_list (option_map (columns k) o)) e) are.keyed)),
    )

-- Entries that are looked up one after another.
use Rattle.desk_types.proofs.Common.{[], ◌++◌, ◌+◌, ◌==◌, ◌∙◌, ◌∷◌, ◌≡◌, AllByRecursion, ap, append-nil, ap₂}
use Rattle.desk_types.proofs.Common.{arith, Bool, eq-eqb, eqb-true, false, length, length-append, List, map}
use Rattle.desk_types.proofs.Common.{map-append, None, Option, refl, Some, subst, sym, true, true≢false, ℕ}
use Rattle.line_tables.proofs.Common.{all-append, AreRows, Database, IsOurs, KeepsCommit, Row, rows_in, State}
use Rattle.line_tables.proofs.Common.{Table}
use Rattle.line_replay.proofs.SameRows.{same_rows}
use Rattle.line_replay.specs.Alone.{AreAlone, AreMatched, Decides, FindsAlone, HasOneKey, Listed}
use Rattle.line_tables.proofs.Keeps.{reads_before}
use Rattle.std.proofs.lemmas.Iterator.Consumers.{YieldsList-from_rest}
use Rattle.std.specs.{Iterator.AlwaysYields, Iterator.Yields, Map.Iter.TakesFirst}

middle : {X : Type 0} (P : X → Type 0) (xs ys : List X) (x : X) → AllByRecursion P (xs ++ x ∷ ys) → P x
middle P [] ys x h = h.0
middle P (y ∷ xs) ys x h = middle P xs ys x h.1

no_item : {X : Type 0} (x : X) (xs : List X) → ◌≡◌ {A = List X} [] (x ∷ xs) → ⊥
no_item x xs e = cc

first_same : {X : Type 0} (x y : X) (xs ys : List X) → x ∷ xs ≡ y ∷ ys → y ≡ x
first_same x y xs ys e = cc

rest_same : {X : Type 0} (x y : X) (xs ys : List X) → x ∷ xs ≡ y ∷ ys → xs ≡ ys
rest_same x y xs ys e = cc

-- An iterator of a map or a set yields its items, each unchanged or as f reads it.
module _ {A X : Type 0} (shows : A → X) where
  pub yields_all : (items : List X) → AlwaysYields (TakesFirst shows) shows items items
  yields_all items = (YieldsList-from_rest {shows = shows} items refl).runs

  pub yields_each : {E : Type 0} (f : X → E) (items : List X) → AlwaysYields (TakesFirst shows) (λ a. f (shows a)) items (map f items)
  yields_each f [] = λ a left step. no_item (shows a) left step
  yields_each f (x ∷ xs) = (
    λ left step. no_item x xs (sym step.0),
    λ a left step. (
      ap f (first_same x (shows a) xs left step),
      subst (λ at. AlwaysYields (TakesFirst shows) (λ b. f (shows b)) at (map f xs)) (rest_same x (shows a) xs left step) (yields_each f xs),
    ),
  )

module _ {S A E : Type 0} (steps : S → Option A → S → Type 0) (entry : A → E) where
  left_of : (es : List E) (xs : List A) (s t : S) → AlwaysYields steps entry s es → Yields steps s xs t → (more : List E) × (es ≡ map entry xs ++ more) × AlwaysYields steps entry t more
  left_of es [] s t yields so_far = (es, refl, subst (λ at. AlwaysYields steps entry at es) so_far yields)
  left_of [] (x ∷ xs) s t yields so_far = absurd (yields x so_far.0 so_far.1)
  left_of (e ∷ es) (x ∷ xs) s t yields so_far =
      let one = yields.1 x so_far.0 so_far.1 in
      let rest = left_of es xs so_far.0 t one.1 so_far.2 in
      (rest.0, ap₂ (λ (y : E) (ys : List E). y ∷ ys) (sym one.0) rest.1, rest.2)

  module _ (es : List E) (xs : List A) (from s t u : S) (r : Option A) (start : s ≡ from) (yields : AlwaysYields steps entry from es) (so_far : Yields steps s xs t) (step : steps t r u) where
    next_entry : (x : A) → r ≡ Some x → (others : List E) × (es ≡ map entry xs ++ entry x ∷ others)
    next_entry x is = let left = left_of es xs s t (subst (λ at. AlwaysYields steps entry at es) (sym start) yields) so_far in by left.0 left.1 left.2
      where
        by : (more : List E) → es ≡ map entry xs ++ more → AlwaysYields steps entry t more → (others : List E) × (es ≡ map entry xs ++ entry x ∷ others)
        by [] e none = absurd (none x u (subst (λ o. steps t o u) is step))
        by (y ∷ ys) e some = (ys, e ∙ ap (λ z. map entry xs ++ z ∷ ys) (sym (some.1 x u (subst (λ o. steps t o u) is step)).0))

    all_entries : r ≡ None → map entry xs ≡ es
    all_entries is = let left = left_of es xs s t (subst (λ at. AlwaysYields steps entry at es) (sym start) yields) so_far in by left.0 left.1 left.2
      where
        by : (more : List E) → es ≡ map entry xs ++ more → AlwaysYields steps entry t more → map entry xs ≡ es
        by [] e none = sym (e ∙ append-nil (map entry xs))
        by (y ∷ ys) e some = absurd (some.0 u (subst (λ o. steps t o u) is step))

module _ {A K R : Type 0} (entry : A → K × R) (table : Table) (has : K → Row → Bool) (columns : K → R → Row) where
  pub matched_more : (old mid : State) → KeepsCommit old mid → (left next : ℕ) (xs : List A) (x : A) → AreMatched table has columns old left (map entry xs)
      → (b : Bool) → FindsAlone table (has (entry x).0) (columns (entry x).0 (entry x).1) mid b → b ≡ true → next + 1 ≡ left → AreMatched table has columns old next (map entry (xs ++ x ∷ []))
  matched_more old mid kept left next xs x m b found is less =
      let one = reads_before old mid kept _ found in
      let more : map entry (xs ++ x ∷ []) ≡ map entry xs ++ entry x ∷ [] = map-append entry xs (x ∷ []) in
      record {
        was_open = m.was_open;
        are = λ schema.
            let before = m.are schema in
            subst (λ (es : List (K × R)). (next + length es ≡ length (rows_in table old.committed)) × AreAlone has columns (rows_in table old.committed) es) (sym more)
            (omega (arith, before.0, less, length-append (map entry xs) (entry x ∷ [])), all-append _ (map entry xs) (entry x ∷ []) before.1 ((one.are schema).0 is, tt));
      }

  module _ (one_key : HasOneKey has) (f : K → Option R) (es : List (K × R)) (listed : Listed es f) (old : State) where
    abbrev Are : Database → Type 0
    Are db = AreRows has columns (rows_in table db) f

    module _ {S : Type 0} (steps : S → Option A → S → Type 0) (xs : List A) (from s t u : S) (r : Option A) (start : s ≡ from) (yields : AlwaysYields steps entry from es) (so_far : Yields steps s xs t) (step : steps t r u) where
      pub too_few : (x : A) → r ≡ Some x → (left : ℕ) → left ≡ 0 → AreMatched table has columns old left (map entry xs) → Decides Are old false
      too_few x is left none m = record {
        was_open = m.was_open;
        are = λ schema. (
          λ e. absurd (true≢false (sym e)),
          λ are.
              let as_many = ((same_rows has columns one_key f es (rows_in table old.committed) listed).1 are).1 in
              let next = next_entry steps entry es xs from s t u r start yields so_far step x is in
              let before = (m.are schema).0 in
              let count = ap length next.1 in
              absurd (omega (arith, as_many, before, count, none, length-append (map entry xs) (entry x ∷ next.0))),
        );
      }

      pub not_alone : (x : A) → r ≡ Some x → (mid : State) → KeepsCommit old mid → (b : Bool) → FindsAlone table (has (entry x).0) (columns (entry x).0 (entry x).1) mid b → b ≡ false → Decides Are old false
      not_alone x is mid kept b found other =
          let one = reads_before old mid kept _ found in
          record {
            was_open = one.was_open;
            are = λ schema. (
              λ e. absurd (true≢false (sym e)),
              λ are.
                  let alone = ((same_rows has columns one_key f es (rows_in table old.committed) listed).1 are).0 in
                  let next = next_entry steps entry es xs from s t u r start yields so_far step x is in
                  let here = middle _ (map entry xs) next.0 (entry x) (subst (AreAlone has columns (rows_in table old.committed)) next.1 alone) in
                  absurd (true≢false (sym ((one.are schema).1 here) ∙ other)),
            );
          }

      pub all_alone : r ≡ None → (left : ℕ) → AreMatched table has columns old left (map entry xs) → Decides Are old (left == 0)
      all_alone is left m =
          let whole = all_entries steps entry es xs from s t u r start yields so_far step is in
          let by = λ (schema : IsOurs old.committed.schema). subst (λ (l : List (K × R)). (left + length l ≡ length (rows_in table old.committed)) × AreAlone has columns (rows_in table old.committed) l) whole (m.are schema) in
          record {
            was_open = m.was_open;
            are = λ schema. (
              λ none. (same_rows has columns one_key f es (rows_in table old.committed) listed).0 ((by schema).1, (let n = eqb-true left 0 none in let count = (by schema).0 in omega (arith, n, count))),
              λ are.
                  let as_many = ((same_rows has columns one_key f es (rows_in table old.committed) listed).1 are).1 in
                  let count = (by schema).0 in
                  eq-eqb left 0 (omega (arith, as_many, count)),
            );
          }

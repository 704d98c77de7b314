-- The least number, and the number of rows.
use Rattle.desk_types.proofs.Common.{[], ◌++◌, ◌+◌, ◌<◌, ◌∙◌, ◌∷◌, ◌≡◌, All-from_recursion, All-permutation}
use Rattle.desk_types.proofs.Common.{AllByRecursion, AllZip, ap, ap₂, arith, Bool, Err, false, flat_map, IfOk}
use Rattle.desk_types.proofs.Common.{is_gt, is_lt, IsPermutation, IsPermutation-map, IsTotalOrder, IsTrue}
use Rattle.desk_types.proofs.Common.{length, length-map, length_permutation, List, map, min, None, Ok, Option}
use Rattle.desk_types.proofs.Common.{ordering_reverse, ordering_then, pos, recursion_from_All, refl, Result}
use Rattle.desk_types.proofs.Common.{Some, subst, subst₂, suc, sym, true, zero, ℕ, ℤ}
use Rattle.line_tables.proofs.Common.{accepted_columns, accepted_in, all_weaker, Binary, collated, column}
use Rattle.line_tables.proofs.Common.{Error, Ghosts, Held, Int, IsAnswer, IsLeast, Null, one_permutation}
use Rattle.line_tables.proofs.Common.{Output, output, output_cmp, output_cmp_total, overlay, Query, Reads}
use Rattle.line_tables.proofs.Common.{Row, Schema, Selects, state, Trees, Value}
use Rattle.line_tables.proofs.{FindTexts.count_all, FindTexts.count_from, FindTexts.IsSelect}
use Rattle.line_tables.proofs.{FindTexts.IsSelectBy, FindTexts.least_from, FindTexts.least_query}
use Rattle.line_tables.proofs.{FindTexts.select_count_is, Finds.answer_by, Finds.answer_of}
use Rattle.line_tables.proofs.{Finds.overlay_none}
use Rattle.line_tables.specs.{Calls.number_row, declared.reading.TheConstants.SELECT_COUNT}
use Rattle.sqlite.specs.Term.{Env}
use Rattle.sqlite_sql.specs.Group.{IsSummary, Summarizes, value_over}
use Rattle.std.proofs.{Common.Equal, Common.Greater, Common.Less, Common.Ordering, lemmas.Cmp.upto}
use Rattle.std.specs.{List.All, List.Sorted.IsSorted}

module _ {X : Type 0} (cmp : X → X → Ordering) (total : IsTotalOrder cmp) where
  abbrev AtMost : X → X → Type 0
  AtMost a b = is_gt (cmp a b) ≡ false

  turned : (o : Ordering) → is_lt o ≡ false → is_gt (ordering_reverse o) ≡ false
  turned Less h = h
  turned Equal h = refl
  turned Greater h = refl

  first_least : (x : X) (ys : List X) → IsSorted cmp (x ∷ ys) → AllByRecursion (AtMost x) ys
  first_least x [] sorted = tt
  first_least x (y ∷ ys) sorted =
      let first : AtMost x y = ap is_gt (total.antisymm x y) ∙ turned _ (sorted 0 x (omega arith) (omega arith)) in
      let tail : IsSorted cmp (y ∷ ys) = λ k d p q. rw Rattle.std.proofs.Common.add-one (rw Rattle.std.proofs.Common.add-one at (sorted (suc k) d (omega arith) (omega arith))) in
      (first, all_weaker _ (AtMost x) (λ z. upto total x y z first) ys (first_least y ys tail))

abbrev envs : List Row → List Env
envs rows = flat_map (λ r. ([] ∷ r ∷ []) ∷ []) rows

-- A row is sorted by its shown value.
abbrev keyed : Output → Type 0
keyed o = o.0 ≡ column o.1 0 ∷ []

all_keyed : (rows : List Row) → AllByRecursion keyed (map (output least_query) (envs rows))
all_keyed [] = tt
all_keyed (r ∷ rows) = (refl, all_keyed rows)

abbrev number_of : Output → Value
number_of o = column o.1 0

numbers_shown : (columns : Row → Row) → ((r : Row) → column (columns r) 0 ≡ column r 0) → (rows : List Row) → map number_of (map (output least_query) (envs rows)) ≡ map (λ (r : Row). column r 0) (map columns rows)
numbers_shown columns first [] = refl
numbers_shown columns first (r ∷ rows) = ap₂ (λ (v : Value) (rest : List Value). v ∷ rest) (sym (first r)) (numbers_shown columns first rows)

gt_then : (o : Ordering) → is_gt (ordering_then o Equal) ≡ is_gt o
gt_then Less = refl
gt_then Equal = refl
gt_then Greater = refl

compared : (x y : Output) → keyed x → keyed y → is_gt (output_cmp least_query x y) ≡ false → is_gt (collated Binary (number_of x) (number_of y)) ≡ false
compared x y kx ky h = sym (gt_then _) ∙ subst₂ (λ (a b : Row). is_gt (ordering_then (collated Binary (column a 0) (column b 0)) Equal) ≡ false) kx ky h

others_of : (x : Output) (n : ℤ) (ys : List Output) → keyed x → number_of x ≡ Int n → AllByRecursion keyed ys → AllByRecursion (λ y. is_gt (output_cmp least_query x y) ≡ false) ys
    → AllByRecursion (λ other. is_gt (collated Binary (Int n) other) ≡ false) (map number_of ys)
others_of x n [] kx is keys least = tt
others_of x n (y ∷ ys) kx is keys least = (subst (λ v. is_gt (collated Binary v (number_of y)) ≡ false) is (compared x y kx keys.0 least.0), others_of x n ys kx is keys.1 least.1)

envs_length : (rows : List Row) → length (envs rows) ≡ length rows
envs_length [] = refl
envs_length (r ∷ rows) = omega (arith, envs_length rows)

no_rows : (columns : Row → Row) (rows : List Row) → 0 ≡ length rows → map columns rows ≡ []
no_rows columns [] h = refl
no_rows columns (r ∷ rows) h = absurd (omega arith)

least_is : (columns : Row → Row) → ((r : Row) → column (columns r) 0 ≡ column r 0) → (rows : List Row) (ordered : List Output) (o : Option ℤ) → IsPermutation (map (output least_query) (envs rows)) ordered → IsSorted (output_cmp least_query) ordered
    → Rattle.std.proofs.Common.take 1 (map (λ (o : Output). o.1) ordered) ≡ number_row o → IsLeast (map columns rows) o
least_is columns first rows [] None same sorted is = no_rows columns rows (length_permutation _ _ same ∙ length-map (envs rows) (output least_query) ∙ envs_length rows)
least_is columns first rows [] (Some n) same sorted is = absurd (let e = ap length is in omega (arith, e))
least_is columns first rows (x ∷ xs) None same sorted is = absurd (let e = ap length is in omega (arith, e))
least_is columns first rows (x ∷ xs) (Some n) same sorted is =
    let keys = recursion_from_All keyed (x ∷ xs) (All-permutation keyed _ (x ∷ xs) same (All-from_recursion keyed _ (all_keyed rows))) in
    let shown : number_of x ≡ Int n = ap (λ (l : List Row). column (Rattle.std.proofs.Common.get_or l 0 []) 0) is in
    let numbers : IsPermutation (map number_of (map (output least_query) (envs rows))) (number_of x ∷ map number_of xs) = IsPermutation-map number_of _ _ same in (
      map number_of xs,
      subst₂ (λ l v. IsPermutation l (v ∷ map number_of xs)) (numbers_shown columns first rows) shown numbers,
      others_of x n xs keys.0 shown keys.1 (first_least (output_cmp least_query) (output_cmp_total least_query) x xs sorted),
    )

-- The least value of the first column, in one of our tables.
pub finds_least : {S : Type 0} (g : Ghosts S) (sql : List ℕ) (tree : ℕ) (names : List (List ℕ)) → IsSelect sql (least_from tree) names → (columns : Row → Row) → ((r : Row) → column (columns r) 0 ≡ column r 0) → (old : Held S) (rows : List Row) (o : Option ℤ) → Selects g sql [] old rows
    → rows ≡ number_row o → Reads (state g old) (λ db. IsLeast (map columns (db.trees tree)) o)
finds_least g sql tree names means columns first old rows o h is = record {
  was_open = h.was_open;
  are = λ schema.
      let a : IsAnswer (least_from tree) (overlay (state g old).committed.trees []) [] rows = answer_of g sql (least_from tree) names means [] old rows h schema in
      let kept = a.distinct ∙ ap (map (output (least_from tree))) a.grouped in
      let all = kept ∙ ap (λ (l : List Row). map (output (least_from tree)) (envs l)) (overlay_none (state g old).committed.trees tree) in
      least_is columns first ((state g old).committed.trees tree) a.ordered o (subst (λ l. IsPermutation l a.ordered) all a.same) a.sorted (sym a.shown ∙ is);
}

abbrev counted : ℕ → Value
counted n = Int (pos (min n 9223372036854775807))

pub some_same : {X : Type 0} {a b : X} → ◌≡◌ {A = Option X} (Some a) (Some b) → a ≡ b
some_same e = cc

one_value : (order : List Env) (n : ℕ) → length order ≡ n → (values : Row) → AllZip (λ a v. value_over order a ≡ Some v) count_all.aggregates values → values ≡ counted n ∷ []
one_value order n is [] zip = absurd zip
one_value order n is (v ∷ w ∷ more) zip = absurd zip.1
one_value order n is (v ∷ []) zip = ap (λ x. x ∷ []) (sym (some_same zip.0) ∙ ap counted (length-map order (λ _. Null) ∙ is))

one_summary : (order : List Env) (n : ℕ) → length order ≡ n → (rows : List Row) → AllZip (IsSummary count_all) (order ∷ []) rows → rows ≡ (counted n ∷ []) ∷ []
one_summary order n is [] zip = absurd zip
one_summary order n is (r ∷ s ∷ more) zip = absurd zip.1
one_summary order n is (r ∷ []) zip = ap (λ x. x ∷ []) (zip.0.2 ∙ one_value order n is zip.0.0 zip.0.1)

summed : (all staged : List Env) → Summarizes count_all [] all staged → staged ≡ ([] ∷ (counted (length all) ∷ []) ∷ []) ∷ []
summed all staged s =
    let order = s.grouping.0 in
    let row = one_summary order (length all) (length_permutation all order s.grouping.1) s.rows (subst (λ groups. AllZip (IsSummary count_all) groups s.rows) s.grouping.2 s.summaries) in
    s.having ∙ ap (λ (rows : List Row). Rattle.std.proofs.Common.filter (λ env. Rattle.std.specs.List.list_all (Rattle.sqlite.specs.Term.holds env) count_all.having) (map (λ r. [] ∷ r ∷ []) rows)) row

not_most : (n length most : ℕ) → n ≡ min length most → n < most → n ≡ length
not_most n length most is below = omega (arith, is, below)

same_number : (n m : ℕ) → ◌≡◌ {A = List Row} ((Int (pos n) ∷ []) ∷ []) ((Int (pos m) ∷ []) ∷ []) → n ≡ m
same_number n m e = cc

count_is : (tree : ℕ) (db : Trees) (shown : List Row) → IsAnswer (count_from tree) db [] shown → (n : ℕ) → shown ≡ (Int (pos n) ∷ []) ∷ [] → n < 9223372036854775807 → n ≡ length (db tree)
count_is tree db shown a n is below =
    let rows = db tree in
    let all = envs rows in
    let kept : a.kept ≡ ([], counted (length all) ∷ []) ∷ [] = a.distinct ∙ ap (map (output (count_from tree))) (summed all a.staged a.grouped) in
    let ordered : a.ordered ≡ ([], counted (length all) ∷ []) ∷ [] = one_permutation _ a.ordered (subst (λ l. IsPermutation l a.ordered) kept a.same) in
    let row : ◌≡◌ {A = List Row} ((Int (pos n) ∷ []) ∷ []) ((counted (length all) ∷ []) ∷ []) = sym is ∙ a.shown ∙ ap (map (λ (o : Output). o.1)) ordered in
    not_most n (length all) 9223372036854775807 (same_number n _ row) below ∙ envs_length rows

pub finds_count : {S : Type 0} (g : Ghosts S) (sql : List ℕ) (tree : Schema → ℕ) (names : List (List ℕ)) → IsSelectBy sql (λ schema. count_from (tree schema)) names → (columns : Row → Row) (old : Held S) (rows : List Row) (n : ℕ) → Selects g sql [] old rows → rows ≡ (Int (pos n) ∷ []) ∷ []
    → n < 9223372036854775807 → Reads (state g old) (λ db. n ≡ length (map columns (db.trees (tree db.schema))))
finds_count g sql tree names is columns old rows n h shown below = record {
  was_open = h.was_open;
  are = λ schema.
      let at = tree (state g old).committed.schema in
      count_is at (overlay (state g old).committed.trees []) rows (answer_by g sql (λ schema. count_from (tree schema)) names is [] old rows h schema) n shown below ∙ ap length (overlay_none (state g old).committed.trees at) ∙ sym (length-map ((state g old).committed.trees at) columns);
}

pub finds_least_in : {S : Type 0} (g : Ghosts S) (sql : List ℕ) (tree : ℕ) (names : List (List ℕ)) → IsSelect sql (least_from tree) names → (columns : Row → Row) → ((r : Row) → column (columns r) 0 ≡ column r 0) → (old : Held S) (rows : List Row) (r : Result (Option ℤ) Error)
    → IfOk r (λ o. rows ≡ number_row o) → Selects g sql [] old rows → IfOk r (λ o. Reads (state g old) (λ db. IsLeast (map columns (db.trees tree)) o))
finds_least_in g sql tree names means columns first old rows (Err e) is h = tt
finds_least_in g sql tree names means columns first old rows (Ok o) is h = finds_least g sql tree names means columns first old rows o h is

pub finds_count_in : {S : Type 0} (g : Ghosts S) (old : Held S) (rows : List Row) (r : Result ℕ Error) → IfOk r (λ n. rows ≡ (Int (pos n) ∷ []) ∷ []) → IfOk r (λ n. n < 9223372036854775807) → Selects g SELECT_COUNT.now [] old rows
    → IfOk r (λ n. Reads (state g old) (λ db. n ≡ length (accepted_in db)))
finds_count_in g old rows (Err e) is below h = tt
finds_count_in g old rows (Ok n) is below h = finds_count g SELECT_COUNT.now (λ _. 1) _ select_count_is accepted_columns old rows n h is below

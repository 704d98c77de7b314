-- The number of rows of the book.
use Rattle.desk_types.proofs.Common.{[], ◌++◌, ◌<◌, ◌∙◌, ◌∷◌, ◌≡◌, AllZip, ap, arith, IsPermutation, codes, flat_map, IfOk, length, length-map, length_permutation, List, map, min, Ok, Err, Option, pos, Result, refl, Some, subst, sym, ℕ}
use Rattle.line_tables.proofs.Common.{Error, Ghosts, Held, Int, IsAnswer, everything, Null, one_permutation, output, Output, overlay, Row, Selects, state, Trees, understood, Value}
use Rattle.line_tables.proofs.{FindTexts.count_all, FindTexts.count_from, FindTexts.IsSelectIn, Finds.overlay_none}
use Rattle.line_book_store.proofs.Found.{answer}
use Rattle.line_book_store.specs.Book.{book_schema, book_tree, IndexedShelf, PlainShelf, Shelf, shown_columns}
use Rattle.line_book_store.specs.Reading.{ReadsShelf}
use Rattle.line_book_store.specs.declared.reading.TheConstants.{SELECT_COUNT}
use Rattle.sqlite.specs.Term.{Env}
use Rattle.sqlite_sql.specs.Group.{IsSummary, Summarizes, value_over}

abbrev count_names : List (List ℕ)
count_names = codes "count(*)" ∷ []

select_count_is : (shelf : Shelf) → IsSelectIn (book_schema shelf) SELECT_COUNT.now (count_from (book_tree shelf)) count_names
unfolding understood everything
select_count_is (IndexedShelf more) = (refl, refl, (refl, refl))
select_count_is (PlainShelf more) = (refl, refl, (refl, refl))

abbrev envs : List Row → List Env
envs rows = flat_map (λ r. ([] ∷ r ∷ []) ∷ []) rows

envs_length : (rows : List Row) → length (envs rows) ≡ length rows
envs_length [] = refl
envs_length (r ∷ rows) = omega (arith, envs_length rows)

abbrev counted : ℕ → Value
counted n = Int (pos (min n 9223372036854775807))

some_same : {X : Type 0} {a b : X} → ◌≡◌ {A = Option X} (Some a) (Some b) → a ≡ b
some_same e = cc

one_value : (order : List Env) (n : ℕ) → length order ≡ n → (values : Row) → AllZip (λ a v. value_over order a ≡ Some v) count_all.aggregates values → values ≡ counted n ∷ []
one_value order n is [] zip = absurd zip
one_value order n is (v ∷ w ∷ more) zip = absurd zip.1
one_value order n is (v ∷ []) zip = ap (λ x. x ∷ []) (sym (some_same zip.0) ∙ ap counted (length-map order (λ _. Null) ∙ is))

one_summary : (order : List Env) (n : ℕ) → length order ≡ n → (rows : List Row) → AllZip (IsSummary count_all) (order ∷ []) rows → rows ≡ (counted n ∷ []) ∷ []
one_summary order n is [] zip = absurd zip
one_summary order n is (r ∷ s ∷ more) zip = absurd zip.1
one_summary order n is (r ∷ []) zip = ap (λ x. x ∷ []) (zip.0.2 ∙ one_value order n is zip.0.0 zip.0.1)

summed : (all staged : List Env) → Summarizes count_all [] all staged → staged ≡ ([] ∷ (counted (length all) ∷ []) ∷ []) ∷ []
summed all staged s =
    let order = s.grouping.0 in
    let row = one_summary order (length all) (length_permutation all order s.grouping.1) s.rows (subst (λ groups. AllZip (IsSummary count_all) groups s.rows) s.grouping.2 s.summaries) in
    s.having ∙ ap (λ (rows : List Row). Rattle.std.proofs.Common.filter (λ env. Rattle.std.specs.List.list_all (Rattle.sqlite.specs.Term.holds env) count_all.having) (map (λ r. [] ∷ r ∷ []) rows)) row

not_most : (n length most : ℕ) → n ≡ min length most → n < most → n ≡ length
not_most n length most is below = omega (arith, is, below)

same_number : (n m : ℕ) → ◌≡◌ {A = List Row} ((Int (pos n) ∷ []) ∷ []) ((Int (pos m) ∷ []) ∷ []) → n ≡ m
same_number n m e = cc

count_is : (tree : ℕ) (db : Trees) (shown : List Row) → IsAnswer (count_from tree) db [] shown → (n : ℕ) → shown ≡ (Int (pos n) ∷ []) ∷ [] → n < 9223372036854775807 → n ≡ length (db tree)
count_is tree db shown a n is below =
    let rows = db tree in
    let all = envs rows in
    let kept : a.kept ≡ ([], counted (length all) ∷ []) ∷ [] = a.distinct ∙ ap (map (output (count_from tree))) (summed all a.staged a.grouped) in
    let ordered : a.ordered ≡ ([], counted (length all) ∷ []) ∷ [] = one_permutation _ a.ordered (subst (λ l. IsPermutation l a.ordered) kept a.same) in
    let row : ◌≡◌ {A = List Row} ((Int (pos n) ∷ []) ∷ []) ((counted (length all) ∷ []) ∷ []) = sym is ∙ a.shown ∙ ap (map (λ (o : Output). o.1)) ordered in
    not_most n (length all) 9223372036854775807 (same_number n _ row) below ∙ envs_length rows

module _ {S : Type 0} (g : Ghosts S) (old : Held S) (rows : List Row) (h : Selects g SELECT_COUNT.now [] old rows) where
  finds_count : (n : ℕ) → rows ≡ (Int (pos n) ∷ []) ∷ [] → n < 9223372036854775807 → ReadsShelf (state g old) (λ rows. n ≡ length rows)
  finds_count n shown below = record {
    was_open = h.was_open;
    are = λ shelf has.
        let at = book_tree shelf in
        let trees = (state g old).committed.trees in
        count_is at (overlay trees []) rows (answer g SELECT_COUNT.now (count_from at) count_names [] old rows h shelf has (select_count_is shelf)) n shown below ∙ ap length (overlay_none trees at) ∙ sym (length-map (trees at) shown_columns);
  }

  pub finds_count_in : (r : Result ℕ Error) → IfOk r (λ n. rows ≡ (Int (pos n) ∷ []) ∷ []) → IfOk r (λ n. n < 9223372036854775807) → IfOk r (λ n. ReadsShelf (state g old) (λ rows. n ≡ length rows))
  finds_count_in (Err e) is below = tt
  finds_count_in (Ok n) is below = finds_count n is below

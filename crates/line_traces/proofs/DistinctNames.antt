-- The names that DISTINCT keeps are a set.
use Rattle.desk_types.proofs.Common.{[], ◌++◌, ◌||◌, ◌∙◌, ◌∷◌, ◌≡◌, ◌≢◌, All-from_recursion, All-permutation}
use Rattle.desk_types.proofs.Common.{AllByRecursion, ap, ap₂, Bool, by_name, cond, false, filter, flat_map}
use Rattle.desk_types.proofs.Common.{if◌then◌else◌, is_at-by_name, IsPermutation, IsPermutation-sym}
use Rattle.desk_types.proofs.Common.{IsStrictlySortedBy, IsTrue, keys_of, List, list_any, list_any-append}
use Rattle.desk_types.proofs.Common.{list_any-IsPermutation, map, Name, nat_list_cmp_total, option_map}
use Rattle.desk_types.proofs.Common.{option_to_list, recursion_from_All, refl, same, same-refl, same-sym}
use Rattle.desk_types.proofs.Common.{same-true, set_of, Some, subst, sym, tied_itself, true}
use Rattle.line_tables.proofs.Common.{all_weaker, Binary, column, has_text, IsAscending, map-map, Output}
use Rattle.line_tables.proofs.Common.{Text, value_cmp, value_cmp-Text}
use Rattle.desk_laws.{proofs.Mounts.has, proofs.NameSets.has-set, proofs.NameSets.set-ordered}
use Rattle.line_traces.{proofs.Columns.equal-text, proofs.Columns.one-text, proofs.RowsByKey.rows-listed}
use Rattle.sqlite_keyed.proofs.ListLemmas.{all-map}
use Rattle.sqlite_sql.specs.Group.{IsDistinctOf, members}
use Rattle.sqlite_value.{proofs.OrderLemmas.then-Equal, specs.Keys.collated_cmp}
use Rattle.state_rows.specs.Kept.{row_at}
use Rattle.std.{proofs.Common.Equal, proofs.Common.is_eq, proofs.Common.Ordering, specs.Ordering.on}

-- ---- a set is in ascending order

-- ---- the first elements of groups

all-rest : {X : Type 0} (P : X → Type 0) (xs ys : List X) → AllByRecursion P (xs ++ ys) → AllByRecursion P xs × AllByRecursion P ys
all-rest P [] ys all = (tt, all)
all-rest P (x ∷ xs) ys (first, all) = let both = all-rest P xs ys all in ((first, both.0), both.1)

-- Equal elements pass the test together, and all elements that pass equal x.
module _ {X : Type 0} (cmp : X → X → Ordering) (P : X → Type 0) (test : X → Bool) (x : X) (alike : (a b : X) → P a → P b → cmp a b ≡ Equal → test a ≡ test b)
    (tied : (a b : X) → P a → P b → test a ≡ true → test b ≡ true → cmp a b ≡ Equal) (one : (a : X) → P a → test a ≡ true → a ≡ x) where
  none-alike : (a : X) (ys : List X) → P a → test a ≡ false → AllByRecursion P ys → AllByRecursion (λ y. cmp a y ≡ Equal) ys → list_any test ys ≡ false
  none-alike a [] is off all equal = refl
  none-alike a (y ∷ ys) is off (first, all) (here, equal) = ap₂ (λ p q. p || q) (sym (alike a y is first here) ∙ off) (none-alike a ys is off all equal)

  none-apart : (a : X) (gs : List (X × List X)) → P a → test a ≡ true → AllByRecursion P (flat_map members gs) → AllByRecursion (λ (h : X × List X). cmp a h.0 ≢ Equal) gs → filter test (map (λ (g : X × List X). g.0) gs) ≡ []
  none-apart a [] is passes all apart = refl
  none-apart a (g ∷ gs) is passes (first, all) (away, apart) = by (test g.0) refl (none-apart a gs is passes (all-rest P g.1 (flat_map members gs) all).1 apart)
    where
      by : (b : Bool) → test g.0 ≡ b → filter test (map (λ (h : X × List X). h.0) gs) ≡ [] → (if b then g.0 ∷ filter test (map (λ (h : X × List X). h.0) gs) else filter test (map (λ (h : X × List X). h.0) gs)) ≡ []
      by true there rest = absurd (away (tied a g.0 is first passes there))
      by false there rest = rest

  firsts : (gs : List (X × List X)) → AllByRecursion P (flat_map members gs) → AllByRecursion (λ (g : X × List X). AllByRecursion (λ y. cmp g.0 y ≡ Equal) g.1) gs → IsAscending (λ g h. cmp g.0 h.0 ≢ Equal) gs
      → filter test (map (λ (g : X × List X). g.0) gs) ≡ (if list_any test (flat_map members gs) then x ∷ [] else [])
  firsts [] all equal apart = refl
  firsts (g ∷ gs) (first, all) (here, equal) (away, apart) = by (test g.0) refl (firsts gs (all-rest P g.1 (flat_map members gs) all).1 equal apart)
    where
      more : List X
      more = filter test (map (λ (h : X × List X). h.0) gs)

      by : (b : Bool) → test g.0 ≡ b → more ≡ (if list_any test (flat_map members gs) then x ∷ [] else [])
          → (if b then g.0 ∷ more else more) ≡ (if b || list_any test (g.1 ++ flat_map members gs) then x ∷ [] else [])
      by true passes rest =
          ap₂ (λ y ys. y ∷ ys) (one g.0 first passes) (none-apart g.0 gs first passes (all-rest P g.1 (flat_map members gs) all).1 away)
      by false off rest =
          rest ∙ ap (λ b. if b then x ∷ [] else []) (
          sym (list_any-append test g.1 (flat_map members gs)
          ∙ ap (λ b. b || list_any test (flat_map members gs)) (none-alike g.0 g.1 first off (all-rest P g.1 (flat_map members gs) all).0 here)))

  pub one-kept : (all kept : List X) → AllByRecursion P all → IsDistinctOf cmp all kept → filter test kept ≡ (if list_any test all then x ∷ [] else [])
  one-kept all kept are (groups, parts, is) =
      ap (filter test) is
      ∙ firsts groups (recursion_from_All P _ (All-permutation P all _ parts.same (All-from_recursion P all are))) parts.alike parts.apart
      ∙ ap (λ b. if b then x ∷ [] else []) (sym (list_any-IsPermutation test all _ parts.same))

  pub all-kept : (all kept : List X) → AllByRecursion P all → IsDistinctOf cmp all kept → AllByRecursion P kept
  all-kept all kept are (groups, parts, is) =
      subst (AllByRecursion P) (sym is) (heads groups (recursion_from_All P _ (All-permutation P all _ parts.same (All-from_recursion P all are))))
    where
      heads : (gs : List (X × List X)) → AllByRecursion P (flat_map members gs) → AllByRecursion P (map (λ (g : X × List X). g.0) gs)
      heads [] all = tt
      heads (g ∷ gs) (first, all) = (first, heads gs (all-rest P g.1 (flat_map members gs) all).1)

-- ---- names

abbrev pub shown_name : Name → Output
shown_name name = (Text name ∷ [], Text name ∷ [])

-- The order of DISTINCT.
abbrev pub by_shown : Output → Output → Ordering
by_shown = on (λ o. o.1) (collated_cmp (Binary ∷ []))

pub by-shown : (a b : Name) → by_shown (shown_name a) (shown_name b) ≡ by_name a b
by-shown a b = then-Equal (value_cmp (Text a) (Text b)) ∙ value_cmp-Text a b

abbrev shows : Name → Output → Bool
shows name o = has_text 0 name o.1

abbrev IsName : Output → Type 0
IsName o = (name : Name) × (o ≡ shown_name name)

equal-name : (a b : Name) → by_name a b ≡ Equal → a ≡ b
equal-name a b is = same-true a b (sym (is_at-by_name a b) ∙ ap is_eq is)

module _ (name : Name) where
  one-name : (o : Output) → IsName o → shows name o ≡ true → o ≡ shown_name name
  one-name o (n, is) passes = is ∙ ap shown_name (same-true n name (sym (equal-text n name) ∙ ap (shows name) (sym is) ∙ passes))

  tied-names : (a b : Output) → IsName a → IsName b → shows name a ≡ true → shows name b ≡ true → by_shown a b ≡ Equal
  tied-names a b is-a is-b first second =
      ap₂ by_shown (one-name a is-a first) (one-name b is-b second) ∙ by-shown name name ∙ tied_itself nat_list_cmp_total name

  alike-names : (a b : Output) → IsName a → IsName b → by_shown a b ≡ Equal → shows name a ≡ shows name b
  alike-names a b (m, is-a) (n, is-b) equal =
      let one = equal-name m n (sym (by-shown m n) ∙ sym (ap₂ by_shown is-a is-b) ∙ equal) in
      ap (shows name) (is-a ∙ ap shown_name one ∙ sym is-b)

any-shown : (names : List Name) (name : Name) → list_any (shows name) (map shown_name names) ≡ has names name
any-shown [] name = refl
any-shown (n ∷ names) name = ap₂ (λ a b. a || b) (equal-text n name ∙ same-sym n name) (any-shown names name)

abbrev entries_of : List Name → List (Name × Unit {0})
entries_of names = map (λ n. (n, tt)) names

entry-found : (names : List Name) (name : Name) → option_to_list (option_map (λ (u : Unit {0}). shown_name name) (row_at by_name (entries_of names) name)) ≡ (if has names name then shown_name name ∷ [] else [])
entry-found [] name = refl
entry-found (n ∷ names) name = ap (λ b. option_to_list (option_map (λ (u : Unit {0}). shown_name name) (cond b (Some tt) (row_at by_name (entries_of names) name)))) (is_at-by_name name n) ∙ by (same name n) (entry-found names name)
  where
    by : (b : Bool) → option_to_list (option_map (λ (u : Unit {0}). shown_name name) (row_at by_name (entries_of names) name)) ≡ (if has names name then shown_name name ∷ [] else [])
        → option_to_list (option_map (λ (u : Unit {0}). shown_name name) (cond b (Some tt) (row_at by_name (entries_of names) name))) ≡ (if b || has names name then shown_name name ∷ [] else [])
    by true rest = refl
    by false rest = rest

keys-are : (names : List Name) → keys_of (entries_of names) ≡ names
keys-are [] = refl
keys-are (n ∷ names) = ap (λ l. n ∷ l) (keys-are names)

-- DISTINCT keeps the set of the shown names, in some order.
pub kept-set : (names : List Name) (all kept : List Output) → IsPermutation all (map shown_name names) → IsDistinctOf by_shown all kept → IsPermutation kept (map shown_name (set_of names))
kept-set names all kept are distinct =
    subst (IsPermutation kept) (map-map (λ (e : Name × Unit {0}). shown_name e.0) (λ n. (n, tt)) (set_of names)) (
    rows-listed by_name shows (λ k _. shown_name k) (λ k. is_at-by_name k k ∙ same-refl k) (λ k l is. same-true k l (sym (is_at-by_name k l) ∙ is)) apart (entries_of (set_of names)) kept
    (subst (IsStrictlySortedBy by_name) (sym (keys-are (set_of names))) (set-ordered names)) found keyed)
  where
    apart : (k l : Name) (o : Output) → shows k o ≡ true → shows l o ≡ true → k ≡ l
    apart k l o first second = one-text (column o.1 0) k l first second

    every : AllByRecursion IsName all
    every = recursion_from_All IsName all (All-permutation IsName _ all (IsPermutation-sym _ _ are) (All-from_recursion IsName _ (all-map IsName shown_name (λ n. (n, refl)) names)))

    found : (k : Name) → filter (shows k) kept ≡ option_to_list (option_map (λ (u : Unit {0}). shown_name k) (row_at by_name (entries_of (set_of names)) k))
    found k =
        one-kept by_shown IsName (shows k) (shown_name k) (alike-names k) (tied-names k) (one-name k) all kept every distinct
        ∙ ap (λ b. if b then shown_name k ∷ [] else []) (list_any-IsPermutation (shows k) all (map shown_name names) are ∙ any-shown names k ∙ sym (has-set names k))
        ∙ sym (entry-found (set_of names) k)

    keyed : AllByRecursion (λ o. (k : Name) × IsTrue (shows k o)) kept
    keyed = all_weaker IsName _ (λ o named. (named.0, ap (shows named.0) named.1 ∙ equal-text named.0 named.0 ∙ same-refl named.0)) kept (all-kept by_shown IsName (shows []) (shown_name []) (alike-names []) (tied-names []) (one-name []) all kept every distinct)

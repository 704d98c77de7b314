-- Increasing rowids are distinct.
use Rattle.desk_types.proofs.Common.{[], ⊤, ◌&&◌, ◌++◌, ◌+◌, ◌<◌, ◌∙◌, ◌∷◌, ◌≡◌, ◌≤◌, All-from_recursion}
use Rattle.desk_types.proofs.Common.{All-permutation, AllByRecursion, and_parts, ap, arith, Bool, codes, cond}
use Rattle.desk_types.proofs.Common.{drop, false, filter, get_or, if◌then◌else◌, inl, inr, int_cmp}
use Rattle.desk_types.proofs.Common.{IsPermutation, IsPermutation-map, IsPermutation-sym, IsTrue, length}
use Rattle.desk_types.proofs.Common.{length_permutation, List, map, None, Option, recursion_from_All, refl}
use Rattle.desk_types.proofs.Common.{Some, subst, suc, sym, take, take_more, tied_itself, true, true≢false, ℕ}
use Rattle.desk_types.proofs.Common.{ℤ}
use Rattle.line_tables.proofs.Common.{all-append, all_weaker, AreApart, changed_tables, column, found, Ghosts}
use Rattle.line_tables.proofs.Common.{Has, Held, Indexed, Int, is_int, IsAnswer, IsAscending, IsBefore}
use Rattle.line_tables.proofs.Common.{IsOurs, IsPast, IsPermutation-filter, KeepsCommit, kept_in, One, Output}
use Rattle.line_tables.proofs.Common.{output, Reads, Row, rowid, Rules, Schema, State, state, Table, tree_in}
use Rattle.line_tables.proofs.Common.{Trees, Two, Value, value_cmp, value_cmp-Int, value_cmp_total}
use Rattle.line_tables.proofs.{FindTexts.IsSelectBy, Finds.answer_by, Finds.overlay_none, Finds.shown_of}
use Rattle.line_tables.proofs.{Keeps.keeps_same, Keeps.keeps_then, Keeps.reads_before, RowidTexts.found_is}
use Rattle.line_tables.proofs.{RowidTexts.IsRowids, RowidTexts.rowids_from}
use Rattle.line_tables.specs.{Line.found_tables, Line.nothing as no_others, Rising.AreApartWhere}
use Rattle.line_tables.specs.{Rising.AreRising, Rising.IsFoundApartWhere, Rising.Shows, Rowids.AreAllApartBy}
use Rattle.line_tables.specs.{Rowids.changed_of}
use Rattle.sqlite_catalog.proofs.ListFacts.{ascending_push}
use Rattle.sqlite_rules.proofs.ListLemmas.{all_has}
use Rattle.std.proofs.{Common.drop-cons, Common.Equal, Common.Greater, Common.int_lt, Common.is_eq}
use Rattle.std.proofs.{Common.Less, Common.Ordering, lemmas.Cmp.int_cmp_total, lemmas.Cmp.tied_back}

-- ---- one more row

pub past_by : (last n : ℤ) → int_lt last n ≡ true → int_cmp last n ≡ Less
past_by last n h = subst (λ b. cond b Less (cond (int_lt n last) Greater Equal) ≡ Less) (sym h) refl

pub less_by : (last n : ℤ) → int_cmp last n ≡ Less → int_lt last n ≡ true
less_by last n h = go (int_lt last n) (int_lt n last) h
  where
    go : (a b : Bool) → cond a Less (cond b Greater Equal) ≡ Less → a ≡ true
    go true b h = refl
    go false true h = absurd (let e : Greater ≡ Less = h in cc)
    go false false h = absurd (let e : Equal ≡ Less = h in cc)

past_then : (last : Option ℤ) (n m : ℤ) → IsPast last n → int_cmp n m ≡ Less → IsPast last m
past_then None n m h k = tt
past_then (Some l) n m h k = int_cmp_total.trans l n m h k

module _ (rows : List Row) (i : ℕ) (row : Row) (n : ℤ) (last : Option ℤ) (inside : i < length rows) (item : row ≡ get_or rows i row) (is : row ≡ Int n ∷ []) (past : IsPast last n) where
  next : take (i + 1) rows ≡ take i rows ++ row ∷ []
  next = take_more rows i row inside ∙ ap (λ r. take i rows ++ r ∷ []) (sym item)

  pub rising_more : AreRising (take i rows) → ((m : ℤ) → IsPast last m → AllByRecursion (IsBefore (Int m)) (take i rows)) → AreRising (take (i + 1) rows)
  rising_more was below =
      let all = below n past in
      subst AreRising (sym next) (
        ascending_push (λ a b. value_cmp (column a 0) (column b 0) ≡ Less) (take i rows) row was.0 (λ y there. subst (λ r. value_cmp (column y 0) (column r 0) ≡ Less) (sym is) (all_has (IsBefore (Int n)) (take i rows) y all there)),
        all-append (λ r. IsTrue (is_int (column r 0))) (take i rows) (row ∷ []) was.1 (subst (λ r. IsTrue (is_int (column r 0))) (sym is) refl, tt),
      )

  pub below_more : ((m : ℤ) → IsPast last m → AllByRecursion (IsBefore (Int m)) (take i rows)) → (m : ℤ) → IsPast (Some n) m → AllByRecursion (IsBefore (Int m)) (take (i + 1) rows)
  below_more below m h =
      subst (AllByRecursion (IsBefore (Int m))) (sym next)
      (all-append (IsBefore (Int m)) (take i rows) (row ∷ []) (below m (past_then last n m past h)) (subst (IsBefore (Int m)) (sym is) (value_cmp-Int n m ∙ h), tt))

-- ---- the rows after a row

abbrev pub DoRise : List Row → Type 0
DoRise = IsAscending (λ a b. value_cmp (column a 0) (column b 0) ≡ Less)

-- The rows are above the last one, if there is one.
abbrev pub AreAbove : Option ℤ → List Row → Type 0
AreAbove None rows = ⊤
AreAbove (Some last) rows = AllByRecursion (λ r. value_cmp (Int last) (column r 0) ≡ Less) rows

module _ (rows : List Row) (i : ℕ) (row : Row) (n : ℤ) (inside : i < length rows) (item : row ≡ get_or rows i row) (is : row ≡ Int n ∷ []) where
  split : drop i rows ≡ row ∷ drop (i + 1) rows
  split = rw Rattle.std.proofs.Common.add-one (drop-cons rows i row inside ∙ ap (λ r. r ∷ drop (suc i) rows) (sym item))

  first_is : column row 0 ≡ Int n
  first_is = ap (λ r. column r 0) is

  pub above_more : DoRise (drop i rows) → DoRise (drop (i + 1) rows) × AreAbove (Some n) (drop (i + 1) rows)
  above_more rise =
      let parts : DoRise (row ∷ drop (i + 1) rows) = subst DoRise split rise in
      (parts.1, subst (λ (v : Value). AllByRecursion (λ r. value_cmp v (column r 0) ≡ Less) (drop (i + 1) rows)) first_is parts.0)

  pub past_here : (last : Option ℤ) → AreAbove last (drop i rows) → IsPast last n
  past_here None above = tt
  past_here (Some last) above =
      let parts : AreAbove (Some last) (row ∷ drop (i + 1) rows) = subst (AreAbove (Some last)) split above in
      sym (value_cmp-Int last n) ∙ subst (λ (v : Value). value_cmp (Int last) v ≡ Less) first_is parts.0

-- ---- rows by their shown values

none_pass : (p : Row → Bool) (xs : List Row) → AllByRecursion (λ x. p x ≡ false) xs → filter p xs ≡ []
none_pass p [] h = refl
none_pass p (x ∷ xs) h = subst (λ b. (if b then x ∷ filter p xs else filter p xs) ≡ []) (sym h.0) (none_pass p xs h.1)

tied_less : (x y v : Value) → value_cmp x y ≡ Less → is_eq (value_cmp x v) ≡ true → is_eq (value_cmp y v) ≡ false
tied_less x y v less tie = go (value_cmp x v) (value_cmp y v) refl refl tie
  where
    go : (a b : Ordering) → value_cmp x v ≡ a → value_cmp y v ≡ b → is_eq a ≡ true → is_eq b ≡ false
    go Less b p q h = absurd (true≢false (sym h))
    go Greater b p q h = absurd (true≢false (sym h))
    go Equal Less p q h = refl
    go Equal Greater p q h = refl
    go Equal Equal p q h = absurd (let e : Less ≡ Equal = sym less ∙ value_cmp_total.congr x v y p ∙ tied_back value_cmp_total y v q in cc)

one_at_most : (v : Value) (xs : List Row) → IsAscending (λ a b. value_cmp (column a 0) (column b 0) ≡ Less) xs → length (filter (λ x. is_eq (value_cmp (column x 0) v)) xs) ≤ 1
one_at_most v [] h = omega arith
one_at_most v (x ∷ xs) h = go (is_eq (value_cmp (column x 0) v)) refl (one_at_most v xs h.1)
  where
    go : (b : Bool) → is_eq (value_cmp (column x 0) v) ≡ b → length (filter (λ y. is_eq (value_cmp (column y 0) v)) xs) ≤ 1
        → length (if b then x ∷ filter (λ y. is_eq (value_cmp (column y 0) v)) xs else filter (λ y. is_eq (value_cmp (column y 0) v)) xs) ≤ 1
    go false e more = more
    go true e more =
        let none = none_pass (λ y. is_eq (value_cmp (column y 0) v)) xs (all_weaker (λ y. value_cmp (column x 0) (column y 0) ≡ Less) (λ y. is_eq (value_cmp (column y 0) v) ≡ false) (λ y less. tied_less (column x 0) (column y 0) v less e) xs h.0) in
        let long = ap length none in
        omega (arith, long)

module _ (show : Row → Row) (p : Row → Bool) where
  some_in : (xs : List Row) (y : Row) → Has xs y → p (show y) ≡ true → 1 ≤ length (filter p (map show xs))
  some_in [] y h e = absurd h
  some_in (x ∷ xs) y (inl same) e = subst (λ b. 1 ≤ length (if b then show x ∷ filter p (map show xs) else filter p (map show xs))) (sym (ap (λ r. p (show r)) (sym same) ∙ e)) (omega arith)
  some_in (x ∷ xs) y (inr there) e = go (p (show x)) (some_in xs y there e)
    where
      go : (b : Bool) → 1 ≤ length (filter p (map show xs)) → 1 ≤ length (if b then show x ∷ filter p (map show xs) else filter p (map show xs))
      go true h = omega (arith, h)
      go false h = h

  alone : (xs : List Row) (a b : Row) → length (filter p (map show xs)) ≤ 1 → Has xs a → Has xs b → p (show a) ≡ true → p (show b) ≡ true → a ≡ b
  alone [] a b h i j pa pb = absurd i
  alone (x ∷ xs) a b h i j pa pb = go (p (show x)) refl h i j (λ few i j. alone xs a b few i j pa pb)
    where
      go : (c : Bool) → p (show x) ≡ c → length (if c then show x ∷ filter p (map show xs) else filter p (map show xs)) ≤ 1 → Has (x ∷ xs) a → Has (x ∷ xs) b → (length (filter p (map show xs)) ≤ 1 → Has xs a → Has xs b → a ≡ b) → a ≡ b
      go true e few (inl one) (inl other) more = one ∙ sym other
      go true e few (inl one) (inr j) more = absurd (let some = some_in xs b j pb in omega (arith, some, few))
      go true e few (inr i) j more = absurd (let some = some_in xs a i pa in omega (arith, some, few))
      go false e few (inl one) j more = absurd (true≢false (sym pa ∙ ap (λ r. p (show r)) one ∙ e))
      go false e few (inr i) (inl other) more = absurd (true≢false (sym pb ∙ ap (λ r. p (show r)) other ∙ e))
      go false e few (inr i) (inr j) more = more few i j

abbrev IsWhole : Row → Type 0
IsWhole r = IsTrue (is_int (column r 0))

abbrev id_of : Row → Row
id_of r = rowid r ∷ []

shown_has : (P : Row → Type 0) (xs : List Row) (a : Row) → AllByRecursion P (map id_of xs) → Has xs a → P (id_of a)
shown_has P [] a all h = absurd h
shown_has P (x ∷ xs) a all (inl same) = subst (λ r. P (id_of r)) (sym same) all.0
shown_has P (x ∷ xs) a all (inr there) = shown_has P xs a all.1 there

pub apart_shown : (rows shown : List Row) → IsPermutation (map id_of rows) shown → AreRising shown → AreApart rows
apart_shown rows shown same rises = record {
  keyed = λ a there. shown_has IsWhole rows a (recursion_from_All IsWhole (map id_of rows) (All-permutation IsWhole shown (map id_of rows) (IsPermutation-sym _ _ same) (All-from_recursion IsWhole shown rises.1))) there;
  apart = λ a b i j tie.
      let p : Row → Bool = λ r. is_eq (value_cmp (column r 0) (rowid b)) in
      let few : length (filter p shown) ≤ 1 = one_at_most (rowid b) shown rises.0 in
      let many : length (filter p (map id_of rows)) ≡ length (filter p shown) = sym (length_permutation _ _ (IsPermutation-filter p _ _ same)) in
      alone id_of p rows a b (omega (arith, few, many)) i j (ap is_eq tie) (ap is_eq (tied_itself value_cmp_total (rowid b)));
}

-- ---- the results of the queries

ids_shown : (tree : ℕ) (rows : List Row) → shown_of (rowids_from tree) [] rows ≡ map id_of rows
ids_shown tree [] = refl
ids_shown tree (r ∷ rows) = ap (λ rest. id_of r ∷ rest) (ids_shown tree rows)

ids_answer : (tree : ℕ) (db : Trees) (rows : List Row) → IsAnswer (rowids_from tree) db [] rows → IsPermutation (map id_of (db tree)) rows
ids_answer tree db rows a =
    let show : Output → Row = λ o. o.1 in
    let kept = a.distinct ∙ ap (map (output (rowids_from tree))) a.grouped in
    let same : IsPermutation (map show a.kept) (map show a.ordered) = IsPermutation-map show a.kept a.ordered a.same in
    subst (λ l. IsPermutation l rows) (ap (map show) kept ∙ ids_shown tree (db tree)) (subst (IsPermutation (map show a.kept)) (sym a.shown) same)

module _ {S : Type 0} (g : Ghosts S) (old : Held S) where
  pub tells_by : (sql : List ℕ) (tree : Schema → ℕ) (name : List ℕ) → IsSelectBy sql (λ schema. rowids_from (tree schema)) (name ∷ []) → (b : Bool) → Shows g sql old b → Reads (state g old) (λ db. IsTrue b → AreApart (db.trees (tree db.schema)))
  tells_by sql tree name is b h = record {
    was_open = h.1.was_open;
    are = λ schema told.
        let at = tree (state g old).committed.schema in
        apart_shown ((state g old).committed.trees at) h.0 (subst (λ l. IsPermutation (map id_of l) h.0) (overlay_none (state g old).committed.trees at) (ids_answer at _ h.0 (answer_by g sql (λ schema. rowids_from (tree schema)) _ is [] old h.0 h.1 schema))) (h.2.0 told);
  }

  pub tells : (sql : List ℕ) (tree : ℕ) (name : List ℕ) → IsRowids sql tree name → (b : Bool) → Shows g sql old b → Reads (state g old) (λ db. IsTrue b → AreApart (db.trees tree))
  tells sql tree name is b h = tells_by sql (λ _. tree) name is b h

  pub tells_found : (b : Bool) → Shows g (codes "SELECT rowid FROM found ORDER BY rowid") old b → IsFoundApartWhere Two b (state g old)
  tells_found b h = let t = tells_by _ (tree_in found) _ found_is b h in record { was_open = t.was_open; are = λ ours told. (t.are ours told, tt) }

told_more : (old mid : State) → KeepsCommit old mid → (table : Table) (tables : List Table) (a b : Bool) → Reads old (λ db. IsTrue a → AreApart (kept_in table db)) → Reads mid (AreApartWhere b tables) → Reads old (AreApartWhere (a && b) (table ∷ tables))
told_more old mid kept table tables a b first others = record {
  was_open = first.was_open;
  are = λ schema told. let both = and_parts _ _ told in (first.are schema both.0, (reads_before old mid kept (AreApartWhere b tables) others).are schema both.1);
}

told_none : (s : State) → IsTrue s.is_open → Reads s (AreApartWhere true [])
told_none s was_open = record { was_open = was_open; are = λ schema told. tt }

pub told_four : (s1 s2 s3 s4 : State) → KeepsCommit s1 s2 → KeepsCommit s2 s3 → KeepsCommit s3 s4 → (t1 t2 t3 t4 : Table) (a b c d : Bool) → Reads s1 (λ db. IsTrue a → AreApart (kept_in t1 db)) → Reads s2 (λ db. IsTrue b → AreApart (kept_in t2 db))
    → Reads s3 (λ db. IsTrue c → AreApart (kept_in t3 db)) → Reads s4 (λ db. IsTrue d → AreApart (kept_in t4 db)) → (all : Bool) → all ≡ (a && (b && (c && (d && true)))) → Reads s1 (AreApartWhere all (t1 ∷ t2 ∷ t3 ∷ t4 ∷ []))
told_four s1 s2 s3 s4 k1 k2 k3 t1 t2 t3 t4 a b c d r1 r2 r3 r4 all is =
    subst (λ x. Reads s1 (AreApartWhere x (t1 ∷ t2 ∷ t3 ∷ t4 ∷ []))) (sym is)
    (told_more s1 s2 k1 t1 (t2 ∷ t3 ∷ t4 ∷ []) a _ r1 (told_more s2 s3 k2 t2 (t3 ∷ t4 ∷ []) b _ r2 (told_more s3 s4 k3 t3 (t4 ∷ []) c _ r3 (told_more s4 s4 (keeps_same s4) t4 [] d true r4 (told_none s4 r4.was_open)))))

found_told : (old mid : State) → KeepsCommit old mid → (rules : Rules) (b : Bool) → IsFoundApartWhere rules b mid → IsOurs old.committed.schema → AreApartWhere b (found_tables rules (Indexed no_others)) old.committed
found_told old mid kept One b told ours = λ is. tt
found_told old mid kept Two b told ours = (reads_before old mid kept (AreApartWhere b (found ∷ [])) told).are ours

pub told_three : (s1 s2 s3 s4 : State) → KeepsCommit s1 s2 → KeepsCommit s2 s3 → KeepsCommit s3 s4 → (t1 t2 t3 : Table) (rules : Rules) (a b c d : Bool) → Reads s1 (λ db. IsTrue a → AreApart (kept_in t1 db)) → Reads s2 (λ db. IsTrue b → AreApart (kept_in t2 db))
    → Reads s3 (λ db. IsTrue c → AreApart (kept_in t3 db)) → IsFoundApartWhere rules d s4 → (all : Bool) → all ≡ (a && (b && (c && (d && true)))) → Reads s1 (AreApartWhere all (t1 ∷ t2 ∷ t3 ∷ found_tables rules (Indexed no_others)))
told_three s1 s2 s3 s4 k1 k2 k3 t1 t2 t3 rules a b c d r1 r2 r3 last all is =
    let k13 = keeps_then s1 s2 s3 k1 k2 in
    record {
      was_open = r1.was_open;
      are = λ ours told.
          let e1 = and_parts _ _ (sym is ∙ told) in
          let e2 = and_parts _ _ e1.1 in
          let e3 = and_parts _ _ e2.1 in
          let e4 = and_parts _ _ e3.1 in
          (r1.are ours e1.0, ((reads_before s1 s2 k1 (λ db. IsTrue b → AreApart (kept_in t2 db)) r2).are ours e2.0, ((reads_before s1 s3 k13 (λ db. IsTrue c → AreApart (kept_in t3 db)) r3).are ours e3.0, found_told s1 s4 (keeps_then s1 s3 s4 k13 k3) rules d last ours e4.0)));
    }

pub told_all : (old mid : State) → KeepsCommit old mid → Reads old (AreApartWhere true (take 4 changed_tables)) → (rules : Rules) (b : Bool) → Reads mid (AreApartWhere b (drop 4 (changed_of rules))) → Reads old (λ db. IsTrue b → AreAllApartBy rules db)
told_all old mid kept first rules b others = record {
  was_open = first.was_open;
  are = λ ours told. all-append (λ (table : Table). AreApart (kept_in table old.committed)) (take 4 changed_tables) (drop 4 (changed_of rules)) (first.are ours refl) ((reads_before old mid kept (AreApartWhere b (drop 4 (changed_of rules))) others).are ours told);
}

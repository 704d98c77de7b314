-- Rows of a table by key: each key has at most one row, and a change at one key changes the map at that key.
use Rattle.desk_types.proofs.Common.{[], ◌&&◌, ◌++◌, ◌==◌, ◌||◌, ◌∙◌, ◌∷◌, ◌≡◌, All-from_recursion}
use Rattle.desk_types.proofs.Common.{All-permutation, AllByRecursion, and_from, and_parts, ap, ap₂, arith}
use Rattle.desk_types.proofs.Common.{Bool, eq-eqb, eqb-true, false, filter, if◌then◌else◌, int_ranked}
use Rattle.desk_types.proofs.Common.{IsPermutation, IsPermutation-sym, length_permutation, List, Name, None}
use Rattle.desk_types.proofs.Common.{not, Option, option_map, option_to_list, pos, recursion_from_All, refl}
use Rattle.desk_types.proofs.Common.{same, same-refl, same-true, Some, subst, sym, texts_ties, tied_itself}
use Rattle.desk_types.proofs.Common.{true, true≢false, ℕ, ℤ}
use Rattle.line_tables.proofs.Common.{AreRows, Binary, binary, column, equal, has_pair, has_piece}
use Rattle.line_tables.proofs.Common.{has_sheet_place, has_text, Int, is_true, IsPermutation-filter, Null}
use Rattle.line_tables.proofs.Common.{one_permutation, placement_columns, Row, Text, Value, value_cmp}
use Rattle.line_tables.proofs.Common.{value_cmp-Int, value_cmp-Text, value_cmp_total}
use Rattle.desk_types.specs.declared.row.PlacementRow.{PlacementRow}
use Rattle.line_tables.{proofs.Altering.without, specs.StateRows.has_int}
use Rattle.sqlite_sql.specs.Ops.{from_truth, is_null}
use Rattle.std.proofs.Common.{Equal, Greater, is_eq, Less, Ordering}

-- ---- values that SQL considers equal

pub truth_told : (b : Bool) → is_true (from_truth (Some b)) ≡ b
truth_told true = refl
truth_told false = refl

pub number_test : (a b : ℕ) → equal Binary (Int (pos a)) (Int (pos b)) ≡ is_eq (value_cmp (Int (pos a)) (Int (pos b)))
unfolding binary
number_test a b = truth_told _

tied : (v a : Value) → equal Binary v a ≡ true → value_cmp v a ≡ Equal
unfolding binary
tied v a e = go (is_null v || is_null a) (value_cmp v a) e
  where
    go : (b : Bool) (o : Ordering) → is_true (if b then Null else from_truth (Some (is_eq o))) ≡ true → o ≡ Equal
    go true o h = absurd (true≢false (sym h))
    go false Less h = absurd (true≢false (sym h))
    go false Equal h = refl
    go false Greater h = absurd (true≢false (sym h))

pub tied_twice : (v a b : Value) → equal Binary v a ≡ true → equal Binary v b ≡ true → value_cmp a b ≡ Equal
tied_twice v a b p q = sym (value_cmp_total.congr v a b (tied v a p)) ∙ tied v b q

equal_itself : (v : Value) → is_null v ≡ false → equal Binary v v ≡ true
unfolding binary
equal_itself v some =
    ap₂ (λ b o. is_true (if b || b then Null else from_truth (Some (is_eq o)))) some (tied_itself value_cmp_total v)

-- ---- the keys of the tables

pub own_text : (name : Name) → equal Binary (Text name) (Text name) ≡ true
own_text name = equal_itself (Text name) refl

pub own_int : (n : ℕ) → equal Binary (Int (pos n)) (Int (pos n)) ≡ true
own_int n = equal_itself (Int (pos n)) refl

pub one_text : (at : ℕ) (a b : Name) (row : Row) → has_text at a row ≡ true → has_text at b row ≡ true → a ≡ b
one_text at a b row p q = same-true a b (texts_ties a b ∙ ap is_eq (sym (value_cmp-Text a b) ∙ tied_twice (column row at) (Text a) (Text b) p q))

pos_same : (m n : ℕ) → ◌≡◌ {A = ℤ} (pos m) (pos n) → m ≡ n
pos_same m n e = cc

one_int : (at : ℕ) (m n : ℕ) (row : Row) → has_int at m row ≡ true → has_int at n row ≡ true → m ≡ n
one_int at m n row p q = pos_same m n (int_ranked (pos m) (pos n) Equal (sym (sym (value_cmp-Int (pos m) (pos n)) ∙ tied_twice (column row at) (Int (pos m)) (Int (pos n)) p q)))

pub one_pair : (a b : Name × Name) (row : Row) → has_pair a row ≡ true → has_pair b row ≡ true → a ≡ b
one_pair a b row p q =
    let x = and_parts _ _ p in
    let y = and_parts _ _ q in
    ap₂ (λ (s t : Name). (s, t)) (one_text 0 a.0 b.0 row x.0 y.0) (one_text 1 a.1 b.1 row x.1 y.1)

pub one_sheet_place : (a b : Name × Name × ℕ) (row : Row) → has_sheet_place a row ≡ true → has_sheet_place b row ≡ true → a ≡ b
one_sheet_place a b row p q =
    let x = and_parts _ _ p in
    let y = and_parts _ _ q in
    let u = and_parts _ _ x.1 in
    let v = and_parts _ _ y.1 in
    let first = one_text 0 a.0 b.0 row x.0 y.0 in
    let second = one_text 1 a.1 b.1 row u.0 v.0 in
    let third = one_int 2 a.2 b.2 row u.1 v.1 in
    ap₂ (λ (s : Name) (t : Name × ℕ). (s, t.0, t.1)) first (ap₂ (λ (s : Name) (t : ℕ). (s, t)) second third)

pub one_piece : (a b : ℕ × ℕ) (row : Row) → has_piece a row ≡ true → has_piece b row ≡ true → a ≡ b
one_piece a b row p q =
    let x = and_parts _ _ p in
    let y = and_parts _ _ q in
    ap₂ (λ (m n : ℕ). (m, n)) (one_int 0 a.0 b.0 row x.0 y.0) (one_int 1 a.1 b.1 row x.1 y.1)

pub own_piece : (p : PlacementRow) → has_piece (p.number, p.place) (placement_columns p) ≡ true
own_piece p = and_from _ _ (own_int p.number) (own_int p.place)

abbrev pub same_pair : Name × Name → Name × Name → Bool
same_pair a b = same a.0 b.0 && same a.1 b.1

abbrev pub same_sheet_place : Name × Name × ℕ → Name × Name × ℕ → Bool
same_sheet_place a b = same a.0 b.0 && same a.1 b.1 && (a.2 == b.2)

abbrev pub same_piece : ℕ × ℕ → ℕ × ℕ → Bool
same_piece a b = a.0 == b.0 && (a.1 == b.1)

-- The tests distinguish different keys, and never a key from itself.
pub record Tells {K : Type 0} (is : K → K → Bool) : Type 0 where
  pub one : (k l : K) → is k l ≡ true → k ≡ l
  pub own : (k : K) → is k k ≡ true

pub tells_text : Tells same
tells_text = record { one = same-true; own = same-refl }

pub tells_pair : Tells same_pair
tells_pair = record {
  one = λ k l h. let x = and_parts _ _ h in ap₂ (λ (s t : Name). (s, t)) (same-true k.0 l.0 x.0) (same-true k.1 l.1 x.1);
  own = λ k. and_from _ _ (same-refl k.0) (same-refl k.1);
}

pub tells_sheet_place : Tells same_sheet_place
tells_sheet_place = record {
  one = λ k l h.
      let x = and_parts _ _ h in
      let y = and_parts _ _ x.0 in
      ap₂ (λ (s : Name) (t : Name × ℕ). (s, t.0, t.1)) (same-true k.0 l.0 y.0) (ap₂ (λ (s : Name) (t : ℕ). (s, t)) (same-true k.1 l.1 y.1) (eqb-true k.2 l.2 x.1));
  own = λ k. and_from _ _ (and_from _ _ (same-refl k.0) (same-refl k.1)) (eq-eqb k.2 k.2 refl);
}

pub tells_piece : Tells same_piece
tells_piece = record {
  one = λ k l h. let x = and_parts _ _ h in ap₂ (λ (m n : ℕ). (m, n)) (eqb-true k.0 l.0 x.0) (eqb-true k.1 l.1 x.1);
  own = λ k. and_from _ _ (eq-eqb k.0 k.0 refl) (eq-eqb k.1 k.1 refl);
}

-- ---- rows

all_filter : {X : Type 0} (P : X → Type 0) (p : X → Bool) (xs : List X) → AllByRecursion P xs → AllByRecursion P (filter p xs)
all_filter P p [] h = tt
all_filter P p (x ∷ xs) h = go (p x) (all_filter P p xs h.1)
  where
    go : (b : Bool) → AllByRecursion P (filter p xs) → AllByRecursion P (if b then x ∷ filter p xs else filter p xs)
    go true more = (h.0, more)
    go false more = more

one_list : (xs : List Row) (o : Option Row) → IsPermutation xs (option_to_list o) → xs ≡ option_to_list o
one_list [] None h = refl
one_list (x ∷ xs) None h = absurd (omega (arith, length_permutation _ _ h))
one_list xs (Some x) h = one_permutation x xs (IsPermutation-sym _ _ h)

none_out : (p : Row → Bool) (rows : List Row) → filter p rows ≡ [] → without p rows ≡ rows
none_out p [] h = refl
none_out p (r ∷ rs) h = go (p r) h (none_out p rs)
  where
    go : (b : Bool) → (if b then r ∷ filter p rs else filter p rs) ≡ [] → (filter p rs ≡ [] → without p rs ≡ rs) → (if not b then r ∷ without p rs else without p rs) ≡ r ∷ rs
    go true h more = absurd (cc)
    go false h more = ap (λ l. r ∷ l) (more h)

module _ {K R : Type 0} (has : K → Row → Bool) (columns : K → R → Row) (one_key : (k l : K) (row : Row) → has k row ≡ true → has l row ≡ true → k ≡ l) (is : K → K → Bool) (tells : Tells is) where
  abbrev put_at : K → Option R → List Row
  put_at k o = option_to_list (option_map (columns k) o)

  others : (k l : K) → (k ≡ l → ⊥) → (rows : List Row) → filter (has l) (without (has k) rows) ≡ filter (has l) rows
  others k l other [] = refl
  others k l other (r ∷ rs) = go (has k r) refl (others k l other rs)
    where
      step : (c : Bool) → has k r ≡ true → has l r ≡ c → filter (has l) (without (has k) rs) ≡ filter (has l) rs → filter (has l) (without (has k) rs) ≡ (if c then r ∷ filter (has l) rs else filter (has l) rs)
      step true one two more = absurd (other (one_key k l r one two))
      step false one two more = more

      go : (b : Bool) → has k r ≡ b → filter (has l) (without (has k) rs) ≡ filter (has l) rs → filter (has l) (if not b then r ∷ without (has k) rs else without (has k) rs) ≡ (if has l r then r ∷ filter (has l) rs else filter (has l) rs)
      go false e more = ap (λ rest. if has l r then r ∷ rest else rest) more
      go true e more = step (has l r) e refl more

  none_left : (k : K) (rows : List Row) → filter (has k) (without (has k) rows) ≡ []
  none_left k [] = refl
  none_left k (r ∷ rs) = go (has k r) refl (none_left k rs)
    where
      go : (b : Bool) → has k r ≡ b → filter (has k) (without (has k) rs) ≡ [] → filter (has k) (if not b then r ∷ without (has k) rs else without (has k) rs) ≡ []
      go true e more = more
      go false e more = subst (λ c. (if c then r ∷ filter (has k) (without (has k) rs) else filter (has k) (without (has k) rs)) ≡ []) (sym e) more

  at_own : (k : K) (o : Option R) (rows : List Row) → AllByRecursion (λ row. has k row ≡ true) (put_at k o) → filter (has k) (put_at k o ++ without (has k) rows) ≡ put_at k o
  at_own k None rows own = none_left k rows
  at_own k (Some r) rows own =
      let left = filter (has k) (without (has k) rows) in
      subst (λ b. (if b then columns k r ∷ left else left) ≡ columns k r ∷ []) (sym own.0) (ap (λ l. columns k r ∷ l) (none_left k rows))

  at_other : (k l : K) → is k l ≡ false → (o : Option R) (rows : List Row) → AllByRecursion (λ row. has k row ≡ true) (put_at k o) → filter (has l) (put_at k o ++ without (has k) rows) ≡ filter (has l) rows
  at_other k l e o rows = by o
    where
      other : k ≡ l → ⊥
      other one = true≢false (sym (subst (λ m. is k m ≡ true) one (tells.own k)) ∙ e)

      by : (o : Option R) → AllByRecursion (λ row. has k row ≡ true) (put_at k o) → filter (has l) (put_at k o ++ without (has k) rows) ≡ filter (has l) rows
      by None own = others k l other rows
      by (Some r) own = go (has l (columns k r)) refl
        where
          go : (b : Bool) → has l (columns k r) ≡ b → (if b then columns k r ∷ filter (has l) (without (has k) rows) else filter (has l) (without (has k) rows)) ≡ filter (has l) rows
          go true both = absurd (other (one_key k l (columns k r) own.0 both))
          go false none = others k l other rows

  abbrev IsKeyed : Row → Type 0
  IsKeyed row = (key : K) × (has key row ≡ true)

  all_keyed : (k : K) (o : Option R) (rows : List Row) → AllByRecursion (λ row. has k row ≡ true) (put_at k o) → AllByRecursion IsKeyed rows → AllByRecursion IsKeyed (put_at k o ++ without (has k) rows)
  all_keyed k None rows own keyed = all_filter IsKeyed _ rows keyed
  all_keyed k (Some r) rows own keyed = ((k, own.0), all_filter IsKeyed _ rows keyed)

  -- The rows of a key are removed, and its new row, if any, is added: the result matches the map.
  pub changed : (k : K) (o : Option R) (rows news : List Row) (f g : K → Option R) → AllByRecursion (λ row. has k row ≡ true) (put_at k o) → ((l : K) → g l ≡ (if is k l then o else f l)) → IsPermutation news (put_at k o ++ without (has k) rows)
      → AreRows has columns rows f → AreRows has columns news g
  changed k o rows news f g own each same h = record {
    found = λ l. one_list (filter (has l) news) (option_map (columns l) (g l)) (subst (IsPermutation (filter (has l) news)) (at_each l (is k l) refl (each l)) (IsPermutation-filter (has l) news _ same));
    keyed = recursion_from_All IsKeyed news (All-permutation IsKeyed (put_at k o ++ without (has k) rows) news (IsPermutation-sym _ _ same) (All-from_recursion IsKeyed _ (all_keyed k o rows own h.keyed)));
  }
    where
      at_each : (l : K) (b : Bool) → is k l ≡ b → g l ≡ (if b then o else f l) → filter (has l) (put_at k o ++ without (has k) rows) ≡ option_to_list (option_map (columns l) (g l))
      at_each l true e now = subst (λ m. filter (has m) (put_at k o ++ without (has k) rows) ≡ put_at m (g l)) (tells.one k l e) (at_own k o rows own ∙ ap (put_at k) (sym now))
      at_each l false e now = at_other k l e o rows own ∙ h.found l ∙ ap (put_at l) (sym now)

  pub added : (k : K) (r : R) (rows news : List Row) (f g : K → Option R) → f k ≡ None → has k (columns k r) ≡ true → ((l : K) → g l ≡ (if is k l then Some r else f l)) → IsPermutation news (columns k r ∷ rows)
      → AreRows has columns rows f → AreRows has columns news g
  added k r rows news f g free own each same h =
      let none : filter (has k) rows ≡ [] = h.found k ∙ ap (put_at k) free in
      changed k (Some r) rows news f g (own, tt) each (subst (λ l. IsPermutation news (columns k r ∷ l)) (sym (none_out (has k) rows none)) same) h

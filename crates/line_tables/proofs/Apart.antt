-- Rows with distinct rowids, and the rows that remain after those found by a query are removed.
use Rattle.desk_types.proofs.Common.{[], ◌&&◌, ◌||◌, ◌∙◌, ◌∷◌, ◌≡◌, ap, Bool, cases_Bool, false, filter, inl}
use Rattle.desk_types.proofs.Common.{inr, is_eq, IsPermutation, IsTrue, List, list_any}
use Rattle.desk_types.proofs.Common.{list_any-IsPermutation, map, not, refl, subst, sym, tied_itself, true, ℤ}
use Rattle.line_tables.proofs.Common.{AreApart, Has, ids_of, is_int, is_taken, put_row, Row, rowid, value_cmp}
use Rattle.line_tables.proofs.Common.{value_cmp_total, without_all}
use Rattle.sqlite_rules.proofs.{ListLemmas.has_filtered, ListLemmas.has_kept, ListLemmas.some_from}
use Rattle.sqlite_rules.proofs.{ListLemmas.some_has, TableLemmas.int_is, TableLemmas.put_has}
use Rattle.sqlite_rules.specs.Edit.{id_in}
use Rattle.sqlite_trees.specs.Tree.{has_rowid, without_rowid}
use Rattle.std.proofs.{Common.Equal, Common.Greater, Common.Less, Common.Ordering, lemmas.Cmp.tied_back}

pub apart_none : AreApart []
apart_none = record { keyed = λ a h. absurd h; apart = λ a b h k tie. absurd h }

is_equal : (o : Ordering) → is_eq o ≡ true → o ≡ Equal
is_equal Less h = absurd (cc)
is_equal Equal h = refl
is_equal Greater h = absurd (cc)

not_tied : (rows : List Row) (new b : Row) → is_taken rows new ≡ false → Has rows b → value_cmp (rowid b) (rowid new) ≡ Equal → ⊥
not_tied rows new b free h tie = let e = sym free ∙ some_from (λ y. is_eq (value_cmp (rowid y) (rowid new))) rows b h (ap is_eq tie) in cc

pub apart_put : (rows : List Row) (new : Row) → is_taken rows new ≡ false → IsTrue (is_int (rowid new)) → AreApart rows → AreApart (put_row new rows)
apart_put rows new free keyed h = record {
  keyed = λ a there. elim (put_has new rows a there) [ inl same ↦ subst (λ r. IsTrue (is_int (rowid r))) (sym same) keyed | inr was ↦ h.keyed a was ];
  apart = λ a b p q tie. elim (put_has new rows a p) [
    | inl one ↦ elim (put_has new rows b q) [
      | inl other ↦ one ∙ sym other
      | inr was ↦ absurd (not_tied rows new b free was (tied_back value_cmp_total (rowid new) (rowid b) (subst (λ r. value_cmp (rowid r) (rowid b) ≡ Equal) one tie)))
    ]
    | inr was ↦ elim (put_has new rows b q) [
      | inl other ↦ absurd (not_tied rows new a free was (subst (λ r. value_cmp (rowid a) (rowid r) ≡ Equal) other tie))
      | inr old ↦ h.apart a b was old tie
    ]
  ];
}

pub apart_filter : (p : Row → Bool) (rows : List Row) → AreApart rows → AreApart (filter p rows)
apart_filter p rows h = record {
  keyed = λ a there. h.keyed a (has_filtered p rows a there).0;
  apart = λ a b one other. h.apart a b (has_filtered p rows a one).0 (has_filtered p rows b other).0;
}

filter_same_has : {X : Type 0} (p q : X → Bool) (xs : List X) → ((x : X) → Has xs x → p x ≡ q x) → filter p xs ≡ filter q xs
filter_same_has p q [] h = refl
filter_same_has p q (x ∷ xs) h = rw (h x (inl refl), filter_same_has p q xs (λ y k. h y (inr k))) refl

filter_twice : {X : Type 0} (p q : X → Bool) (xs : List X) → filter p (filter q xs) ≡ filter (λ x. q x && p x) xs
filter_twice p q [] = refl
filter_twice p q (x ∷ xs) = elim (cases_Bool (q x)) [
  | inl it ↦ rw (it, filter_twice p q xs) refl
  | inr it ↦ rw (it, filter_twice p q xs) refl
]

filter_whole : {X : Type 0} (xs : List X) → filter (λ _. true) xs ≡ xs
filter_whole [] = refl
filter_whole (x ∷ xs) = ap (λ more. x ∷ more) (filter_whole xs)

not_or : (a b : Bool) → (not a && not b) ≡ not (a || b)
not_or true b = refl
not_or false b = refl

without_all_is : (ids : List ℤ) (rows : List Row) → without_all rows ids ≡ filter (λ r. not (list_any (λ id. has_rowid id r) ids)) rows
without_all_is [] rows = sym (filter_whole rows)
without_all_is (id ∷ ids) rows =
    without_all_is ids (without_rowid id rows) ∙ filter_twice _ _ rows ∙ filter_same_has _ _ rows (λ r _. not_or (has_rowid id r) (list_any (λ other. has_rowid other r) ids))

pub any_map : {A B : Type 0} (f : A → B) (p : B → Bool) (xs : List A) → list_any p (map f xs) ≡ list_any (λ x. p (f x)) xs
any_map f p [] = refl
any_map f p (x ∷ xs) = ap (λ b. p (f x) || b) (any_map f p xs)

any_same : {A : Type 0} (p q : A → Bool) (xs : List A) → ((x : A) → p x ≡ q x) → list_any p xs ≡ list_any q xs
any_same p q [] each = refl
any_same p q (x ∷ xs) each = rw (each x, any_same p q xs each) refl

module _ (m : Row → Bool) (rows : List Row) (h : AreApart rows) where
  own : (r : Row) → Has rows r → has_rowid (id_in (rowid r)) r ≡ true
  own r there = ap is_eq (subst (λ v. value_cmp (rowid r) v ≡ Equal) (int_is (rowid r) (h.keyed r there)) (tied_itself value_cmp_total (rowid r)))

  is_found : (r : Row) → Has rows r → list_any (λ y. has_rowid (id_in (rowid y)) r) (filter m rows) ≡ m r
  is_found r there = elim (cases_Bool (list_any (λ y. has_rowid (id_in (rowid y)) r) (filter m rows))) [
    | inl some ↦
        let y = some_has _ (filter m rows) some in
        let was = has_filtered m rows y.0 y.1 in
        let tie = subst (λ v. value_cmp (rowid r) v ≡ Equal) (sym (int_is (rowid y.0) (h.keyed y.0 was.0))) (is_equal _ y.2) in
        some ∙ sym was.1 ∙ ap m (sym (h.apart r y.0 there was.0 tie))
    | inr none ↦ elim (cases_Bool (m r)) [
      | inl passes ↦ absurd (let some = some_from (λ y. has_rowid (id_in (rowid y)) r) (filter m rows) r (has_kept m rows r there passes) (own r there) in let e = sym none ∙ some in cc)
      | inr fails ↦ none ∙ sym fails
    ]
  ]

  pub taken : (show : Row → Row) → ((r : Row) → rowid (show r) ≡ rowid r) → (found : List Row) → IsPermutation (map show (filter m rows)) found → without_all rows (ids_of found) ≡ filter (λ r. not (m r)) rows
  taken show begins found same =
      without_all_is (ids_of found) rows ∙ filter_same_has _ _ rows (λ r there. ap not (any_map (λ y. id_in (rowid y)) (λ id. has_rowid id r) found
      ∙ sym (list_any-IsPermutation (λ y. has_rowid (id_in (rowid y)) r) (map show (filter m rows)) found same)
      ∙ any_map show (λ y. has_rowid (id_in (rowid y)) r) (filter m rows) ∙ any_same _ _ (filter m rows) (λ y. ap (λ v. has_rowid (id_in v) r) (begins y)) ∙ is_found r there))

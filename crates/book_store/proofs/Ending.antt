-- Both lists after a call, by the calls that it makes.
use Rattle.desk_types.proofs.Common.{◌≡◌, Basis, Err, inl, inr, Ok, refl, Result, subst, sym}
use Rattle.line_tables.proofs.Common.{Ghosts, Trees}
use Rattle.book_store.specs.Ended.{Ends}
use Rattle.book_store.specs.Lists.{book_state, Lists, StandsFor}
use Rattle.book_store.specs.declared.store.BookStore.{BookStore}

module _ {S D : Type 0} (g : Ghosts S) (F : D → Basis → Type 0) (old new : BookStore S D) (L : Lists) where
  -- A crash leaves nothing new.
  abbrev LeavesNothing : Type 0
  LeavesNothing = (trees : Trees) → (book_state g new).may_leave trees → (book_state g old).may_leave trees

  -- Nothing was written.
  pub ends_still : {A E : Type 0} (a : A) (Are : A → Lists → Type 0) → LeavesNothing → StandsFor g F new L
      → Are a L → Ends {E = E} g F old new L (Ok a) Are
  ends_still a Are nothing stands are = record {
    ok = (L, are, stands, λ trees may. inr (refl, nothing trees may));
    err = tt;
    crash = λ trees may. inl (nothing trees may);
  }

  pub ends_failed : {A E : Type 0} (e : E) (Are : A → Lists → Type 0) → LeavesNothing → StandsFor g F new L
      → Ends g F old new L (Err e) Are
  ends_failed e Are nothing stands = record { ok = tt; err = stands; crash = λ trees may. inl (nothing trees may) }

  -- The same, with another result.
  pub ends_by : {A B E G : Type 0} (f : A → B) (a : A) (Are : A → Lists → Type 0) (Then : B → Lists → Type 0) →
      ((x : A) (M : Lists) → Are x M → Then (f x) M) → Ends {E = E} g F old new L (Ok a) Are
      → Ends {E = G} g F old new L (Ok (f a)) Then
  ends_by f a Are Then then ends = record {
    ok = (ends.ok.0, then a ends.ok.0 ends.ok.1, ends.ok.2, ends.ok.3);
    err = tt;
    crash = λ trees may. elim (ends.crash trees may) [
      | inl was ↦ inl was
      | inr left ↦ inr
          (f left.0, left.1, then left.0 left.1 left.2, left.3)
    ];
  }

  pub ends_ok : {A B E G : Type 0} (a : A) (b : B) (Are : A → Lists → Type 0) (Then : B → Lists → Type 0) →
      ((x : A) (M : Lists) → Are x M → Then b M) → Ends {E = E} g F old new L (Ok a) Are
      → Ends {E = G} g F old new L (Ok b) Then
  ends_ok a b Are Then = ends_by (λ _. b) a Are Then

  pub ends_err : {A B E G : Type 0} (e : E) (f : G) (Are : A → Lists → Type 0) (Then : B → Lists → Type 0) →
      ((x : A) (M : Lists) → Are x M → (b : B) × Then b M) → Ends g F old new L (Err e) Are → Ends g F old new L
      (Err f) Then
  ends_err e f Are Then then ends = record {
    ok = tt;
    err = ends.err;
    crash = λ trees may. elim (ends.crash trees may) [
      | inl was ↦ inl was
      | inr left ↦ let b =
          then left.0 left.1 left.2 in inr (b.0, left.1, b.1, left.3)
    ];
  }

  pub ends_same : {A E : Type 0} (r s : Result A E) → r ≡ s → (Are : A → Lists → Type 0)
      → Ends g F old new L s Are → Ends g F old new L r Are
  ends_same {A} {E} r s is Are ends = subst (λ (r : Result A E). Ends g F old new L r Are) (sym is) ends

  pub ends_told : {A E : Type 0} (r : Result A E) (e : E) → r ≡ Err e → (Are : A → Lists → Type 0)
      → Ends g F old new L (Err e) Are → Ends g F old new L r Are
  ends_told r e is Are ends = ends_same r (Err e) is Are ends

  pub failed_by : {A E : Type 0} (r : Result A E) (e : E) → r ≡ Err e → (Are : A → Lists → Type 0) → LeavesNothing
      → StandsFor g F new L → Ends g F old new L r Are
  failed_by r e is Are nothing stands = ends_told r e is Are (ends_failed e Are nothing stands)

-- After a call that wrote nothing.
module _ {S D : Type 0} (g : Ghosts S) (F : D → Basis → Type 0) (old mid new : BookStore S D) (L : Lists)
    (nothing : (trees : Trees) → (book_state g mid).may_leave trees → (book_state g old).may_leave trees) where
  pub ends_after : {A E : Type 0} (r : Result A E) (Are : A → Lists → Type 0) → Ends g F mid new L r Are
      → Ends g F old new L r Are
  ends_after (Ok a) Are ends = record {
    ok = (
      ends.ok.0,
      ends.ok.1,
      ends.ok.2,
      λ trees may. elim (ends.ok.3 trees may)
          [ inl left ↦ inl left | inr same ↦ inr (same.0, nothing trees same.1) ],
    );
    err = tt;
    crash = λ trees may. elim (ends.crash trees may) [ inl was ↦ inl (nothing trees was) | inr left ↦ inr left ];
  }
  ends_after (Err e) Are ends = record {
    ok = tt;
    err = ends.err;
    crash = λ trees may. elim (ends.crash trees may) [ inl was ↦ inl (nothing trees was) | inr left ↦ inr left ];
  }

-- The same result of a call that is known to do more.
pub ends_as : {S D A E : Type 0} (g : Ghosts S) (F : D → Basis → Type 0) (old new : BookStore S D) (L : Lists)
    (r : Result A E) (Are Then : A → Lists → Type 0) → ((x : A) (M : Lists) → Are x M → Then x M)
    → Ends g F old new L r Are → Ends g F old new L r Then
ends_as g F old new L (Ok a) Are Then then ends = record {
  ok = (ends.ok.0, then a ends.ok.0 ends.ok.1, ends.ok.2, ends.ok.3);
  err = tt;
  crash = λ trees may. elim (ends.crash trees may) [
    | inl was ↦ inl was
    | inr left ↦ inr
        (left.0, left.1, then left.0 left.1 left.2, left.3)
  ];
}
ends_as g F old new L (Err e) Are Then then ends = record {
  ok = tt;
  err = ends.err;
  crash = λ trees may. elim (ends.crash trees may) [
    | inl was ↦ inl was
    | inr left ↦ inr
        (left.0, left.1, then left.0 left.1 left.2, left.3)
  ];
}

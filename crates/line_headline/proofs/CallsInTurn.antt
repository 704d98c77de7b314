-- Calls, one after another.
use Rattle.desk_types.proofs.Common.{[], ◌∷◌, ◌≡◌, Basis, Err, inl, inr, List, None, Ok, Option, refl, Result, Some, subst}
use Rattle.desk_types.proofs.Common.{sym, subst₂}
use Rattle.line_tables.proofs.Common.{Ghosts}
use Rattle.line_schema.specs.declared.unavailable.Unavailable.{Unavailable}
use Rattle.book_store.specs.Ended.{Ends}
use Rattle.book_store.specs.Lists.{Lists, StandsFor}
use Rattle.book_store.specs.declared.store.BookStore.{BookStore}
use Rattle.line_headline.proofs.Growing.{grows, grows_on}
use Rattle.line_headline.specs.Calls.{answered, Call, Calls, EndsAs, GiveInTurn, Gives, Grows, IsWatched, LeavesUpToOneMore}

-- ---- one call

abbrev call_by : {A : Type 0} → (A → Call) → Result A Unavailable → Option Call
call_by f (Ok a) = Some (f a)
call_by f (Err e) = None

-- A call that ended so.
pub ends_as : {S D A : Type 0} (g : Ghosts S) (F : D → Basis → Type 0) (old new : BookStore S D) (L : Lists)
    (r : Result A Unavailable) (f : A → Call) → Ends g F old new L r (λ a. Gives L (f a))
    → (M : Lists) × EndsAs g F old L (call_by f r) new M
ends_as g F old new L (Ok a) f ends = (ends.ok.0, (ends.ok.1, ends.ok.2, ends.ok.3))
ends_as g F old new L (Err e) f ends = (
  L,
  (
    refl,
    ends.err,
    λ trees may. elim (ends.crash trees may)
        [ inl was ↦ inl was | inr left ↦ inr (f left.0, left.1, left.2, left.3) ],
  ),
)

module _ {S D : Type 0} (g : Ghosts S) (F : D → Basis → Type 0) where
  watched_on : (old : BookStore S D) (L : Lists) (c : Option Call) (new : BookStore S D) (M : Lists)
      → IsWatched g F old L → EndsAs g F old L c new M → IsWatched g F new M
  watched_on old L (Some c) new M watched (gives, stands, left) = record {
    stands = stands;
    kill = λ trees may. elim (left trees may) [
      | inl both ↦ inl both
      | inr still ↦ subst (λ (K : Lists). LeavesUpToOneMore K trees) (sym still.0) (watched.kill trees still.1)
    ];
  }
  watched_on old L None new M watched (same, stands, left) = subst (λ (K : Lists). IsWatched g F new K) (sym same)
      (record {
        stands = stands;
        kill = λ trees may. elim (left trees may) [ inl was ↦ watched.kill trees was | inr more ↦ inr more ];
      })

  -- ---- calls in sequence

  gives_one : (old : BookStore S D) (L : Lists) (c : Option Call) (mid : BookStore S D) (N M : Lists)
      (cs : List (Option Call)) → EndsAs g F old L c mid N → GiveInTurn N (answered cs) M
      → GiveInTurn L (answered (c ∷ cs)) M
  gives_one old L (Some c) mid N M cs (gives, stands, left) others = (N, gives, others)
  gives_one old L None mid N M cs (same, stands, left) others =
      subst (λ (K : Lists). GiveInTurn K (answered cs) M) same others

  grows_one : (old : BookStore S D) (L : Lists) (c : Option Call) (mid : BookStore S D) (N : Lists)
      → EndsAs g F old L c mid N → Grows L N
  grows_one old L (Some c) mid N (gives, stands, left) = grows L N c gives
  grows_one old L None mid N (same, stands, left) = subst (λ (K : Lists). Grows L K) (sym same) (grows_still L)
    where
      grows_still : (K : Lists) → Grows K K
      grows_still K = ([], sym (Rattle.desk_types.proofs.Common.append-nil K.notes))

  pub calls_in_turn : (old : BookStore S D) (calls : List (Option Call)) (L M : Lists) (new : BookStore S D)
      → IsWatched g F old L → Calls g F old L calls new M
      → IsWatched g F new M × GiveInTurn L (answered calls) M × Grows L M
  calls_in_turn old [] L M new watched (same, lists) = (
    subst₂ (λ (s : BookStore S D) (K : Lists). IsWatched g F s K) (sym same) (sym lists) watched,
    lists,
    grows_one old L None old M (lists, watched.stands, λ trees may. inl may),
  )
  calls_in_turn old (c ∷ cs) L M new watched (mid, N, ends, calls) =
      let later = calls_in_turn mid cs N M new (watched_on old L c mid N watched ends) calls in (
        later.0,
        gives_one old L c mid N M cs ends later.1,
        grows_on L N M (grows_one old L c mid N ends) later.2,
      )

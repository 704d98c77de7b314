-- Both lists, over a call that may load the desk.
use Rattle.desk_types.proofs.Common.{◌≡◌, arith, Basis, Err, IfSome, inl, inr, IsTrue, Ok, Option, Result, Some, subst, sym}
use Rattle.line_book_store.specs.Book.{HoldsBook}
use Rattle.line_schema.proofs.Verdicts.{keeps_of}
use Rattle.line_schema.specs.{Frames.LetsOthersBe, Frames.MakesDesk, Frames.ReadsStore, Stands.has_desk, Stands.state_of}
use Rattle.line_schema.specs.{declared.store.LineStore.LineStore}
use Rattle.line_schema.specs.Verdict.{KeepsBoth}
use Rattle.line_tables.proofs.Common.{Database, Ghosts, HasCleanDisk, State, Survives, Trees}
use Rattle.book_store.proofs.Ending.{ends_after, ends_still, failed_by}
use Rattle.book_store.specs.Ended.{Ends}
use Rattle.book_store.specs.Lists.{book_state, ForLists, Lists, StandsFor}
use Rattle.book_store.specs.declared.store.BookStore.{BookStore}

module _ {S D : Type 0} (g : Ghosts S) (F : D → Basis → Type 0) (old : BookStore S D) (new : LineStore S D)
    (makes : MakesDesk g F old.store new) (others : LetsOthersBe (state_of g old.store) (state_of g new)) where
  pub lists_stay : ForLists g F old (record old { store = new }) (StandsFor g F (record old { store = new }))
  lists_stay L was clean own = record {
    both = (keeps_of g F old.store new makes.kept makes.stands makes.survives others).stands L.kept L.rows
        was.both clean own;
    read = was.read;
    guard = was.guard;
  }

pub some_there : {A : Type 0} (o : Option A) (a : A) (P : A → Type 0) → o ≡ Some a → IfSome o P → P a
some_there {A} o a P is holds = subst (λ (o : Option A). IfSome o P) is holds

-- Judging a command changes neither list.
pub lists_judged : {S D : Type 0} (g : Ghosts S) (F : D → Basis → Type 0) (old : BookStore S D)
    (new : LineStore S D) → KeepsBoth g F old.store new → ForLists g F old (record old { store = new })
    (StandsFor g F (record old { store = new }))
lists_judged g F old new keeps L was clean own = record {
  both = keeps.stands L.kept L.rows was.both clean own;
  read = was.read;
  guard = was.guard;
}

-- A crash leaves nothing new.
pub nothing_left : (old new : State) → Survives old new (λ _. ⊥) → HasCleanDisk new → (trees : Trees)
    → new.may_leave trees → old.may_leave trees
nothing_left old new survives clean trees may = elim (survives.crash clean trees may)
    [ inl was ↦ was | inr none ↦ absurd none ]

-- A call that only reads changes neither list.
pub lists_read : {S D : Type 0} (g : Ghosts S) (F : D → Basis → Type 0) (old : BookStore S D)
    (new : LineStore S D) → ReadsStore g F old.store new → ForLists g F old (record old { store = new })
    (StandsFor g F (record old { store = new }))
lists_read g F old new reads L was clean own = record {
  both = record {
    stands = reads.stands L.kept was.both.stands;
    book = λ now owns is_open.
        let kept = reads.reads.kept now in
        subst (λ (db : Database). HoldsBook db L.rows) (sym (kept.committed is_open))
        (was.both.book (omega (arith, reads.reads.survives.clean, now)) owns (kept.was_open is_open));
  };
  read = was.read;
  guard = was.guard;
}

-- A call over a loaded desk, which makes none, changes neither list.
pub lists_at_hand : {S D : Type 0} (g : Ghosts S) (F : D → Basis → Type 0) (old : BookStore S D)
    (new : LineStore S D) → IsTrue (has_desk old.store) → MakesDesk g F old.store new
    → ForLists g F old (record old { store = new }) (StandsFor g F (record old { store = new }))
lists_at_hand {S} {D} g F old new loaded makes L was clean own = subst
    (λ (store : LineStore S D). StandsFor g F (record old { store = store }) L) (sym (makes.at_hand loaded)) was

-- ---- after a call that changed neither list

module _ {S D : Type 0} (g : Ghosts S) (F : D → Basis → Type 0) (old mid : BookStore S D)
    (stands : ForLists g F old mid (StandsFor g F mid))
    (survives : Survives (book_state g old) (book_state g mid) (λ _. ⊥)) (L : Lists) (was : StandsFor g F old L)
    (clean : HasCleanDisk (book_state g mid)) (own : IsTrue L.kept.own) where
  pub ends_later : {A E : Type 0} (new : BookStore S D) (r : Result A E) (Are : A → Lists → Type 0)
      → (StandsFor g F mid L → Ends g F mid new L r Are) → Ends g F old new L r Are
  ends_later new r Are ends = ends_after g F old mid new L
      (nothing_left (book_state g old) (book_state g mid) survives clean) r Are (ends (stands L was clean own))

  pub still_later : {A E : Type 0} (a : A) (Are : A → Lists → Type 0) → (StandsFor g F mid L → Are a L)
      → Ends {E = E} g F old mid L (Ok a) Are
  still_later a Are are = ends_still g F old mid L a Are
      (nothing_left (book_state g old) (book_state g mid) survives clean) (stands L was clean own)
      (are (stands L was clean own))

  pub failed_later : {A E : Type 0} (r : Result A E) (e : E) → r ≡ Err e → (Are : A → Lists → Type 0)
      → Ends g F old mid L r Are
  failed_later r e is Are = failed_by g F old mid L r e is Are
      (nothing_left (book_state g old) (book_state g mid) survives clean) (stands L was clean own)

-- What judging a command gives, and the two lists over the calls before it.
use Rattle.desk_types.proofs.Common.{◌<◌, ◌||◌, ◌∙◌, ◌≡◌, after_command, ap, arith, Basis, Bool, false, if◌then◌else◌}
use Rattle.desk_types.proofs.Common.{inl, inr, is_some, IsTrue, length, List, nat_tests, None, Option, reply_to, Some, sym}
use Rattle.desk_types.proofs.Common.{true, unwrap_or}
use Rattle.desk_laws.proofs.Common.{Stamped, Two}
use Rattle.desk_answers.specs.Commands.{command_after, command_answer, earlier_answer, is_full, judged_answer}
use Rattle.desk_answers.specs.declared.answer.Answer.{Answer}
use Rattle.desk_answers.specs.declared.answer.Answer.TheVariants.{DeskFull}
use Rattle.line_book.specs.declared.row.BookRow.{BookRow}
use Rattle.line_book_store.proofs.Both.{book_stays}
use Rattle.line_schema.proofs.Others.{let_be_then}
use Rattle.line_schema.specs.{Book.HasBook, Frames.LetsOthersBe, Stands.ForKept, Stands.Kept, Stands.Stands}
use Rattle.line_schema.specs.{Verdict.IsVerdict, Verdict.IsVerdictAtHand, Verdict.KeepsBoth}
use Rattle.line_schema.specs.{declared.store.LineStore.LineStore, declared.store.verdict.Verdict.Verdict}
use Rattle.line_schema.specs.{declared.store.verdict.Verdict.TheVariants.Accepts}
use Rattle.line_schema.specs.{declared.store.verdict.Verdict.TheVariants.Answered}
use Rattle.line_tables.proofs.Common.{Ghosts, HasCleanDisk, state, Survives, survives_then, Trees}

-- ---- the answer

abbrev with_earlier : Kept → Stamped → Option Answer → Bool → Answer
with_earlier L s o full = unwrap_or o (if full then DeskFull else judged_answer L.history s (reply_to Two L.history s))

pub verdict_earlier : (L : Kept) (s : Stamped) (a : Answer) → earlier_answer L.history s ≡ Some a → IsVerdict L s (Answered a)
verdict_earlier L s a is = (
  sym (ap (λ (o : Option Answer). with_earlier L s o (is_full L.greatest L.history)) is),
  ap (λ (o : Option Answer). if is_some o || is_full L.greatest L.history then L.history else after_command Two L.history s) is,
)

pub verdict_full : (L : Kept) (s : Stamped) → earlier_answer L.history s ≡ None → is_full L.greatest L.history ≡ true → IsVerdict L s (Answered DeskFull)
verdict_full L s none full = (
  sym (ap (λ (o : Option Answer). with_earlier L s o (is_full L.greatest L.history)) none ∙ ap (with_earlier L s None) full),
  ap (λ (o : Option Answer). if is_some o || is_full L.greatest L.history then L.history else after_command Two L.history s) none
      ∙ ap (λ b. if b then L.history else after_command Two L.history s) full,
)

pub verdict_new : (L : Kept) (s : Stamped) (v : Verdict) → earlier_answer L.history s ≡ None → length L.history < L.greatest → IsVerdictAtHand L s v → IsVerdict L s v
verdict_new L s (Answered a) none room at =
    let some : is_full L.greatest L.history ≡ false = grind (arith, nat_tests) in (
      at.0 ∙ sym (ap (λ (o : Option Answer). with_earlier L s o (is_full L.greatest L.history)) none ∙ ap (with_earlier L s None) some),
      ap (λ (o : Option Answer). if is_some o || is_full L.greatest L.history then L.history else after_command Two L.history s) none
          ∙ ap (λ b. if b then L.history else after_command Two L.history s) some ∙ at.1,
    )
verdict_new L s (Accepts change) none room at = record { first = none; room = at.0; is = at.1 }

-- ---- both lists

module _ {S D : Type 0} (g : Ghosts S) (F : D → Basis → Type 0) where
  -- A call that only reads, or loads the desk.
  pub keeps_of : (old new : LineStore S D) → (L : Kept) × Stands g F new L → ForKept g F old new (Stands g F new) → Survives (state g old.conn) (state g new.conn) (λ _. ⊥) → LetsOthersBe (state g old.conn) (state g new.conn) → KeepsBoth g F old new
  keeps_of old new kept stands survives others = record {
    kept = kept;
    stands = λ L entries was clean own. record {
      stands = stands L was.stands clean own;
      book = λ now owns is. book_stays (state g old.conn).committed (state g new.conn).committed (others.rows now is) entries (was.book (omega (arith, survives.clean, now)) owns (others.was_open now is));
    };
    survives = survives;
    others = others;
  }

  pub keeps_then : (old mid new : LineStore S D) → KeepsBoth g F old mid → KeepsBoth g F mid new → KeepsBoth g F old new
  keeps_then old mid new one two = record {
    kept = two.kept;
    stands = λ L entries was clean own. two.stands L entries (one.stands L entries was (omega (arith, two.survives.clean, clean)) own) clean own;
    survives = survives_then (state g old.conn) (state g mid.conn) (state g new.conn) _ _ (λ _. ⊥) (λ _ trees none. none) (λ _ trees none. none) one.survives two.survives;
    others = let_be_then (state g old.conn) (state g mid.conn) (state g new.conn) (λ clean. omega (arith, two.survives.clean, clean)) one.others two.others;
  }

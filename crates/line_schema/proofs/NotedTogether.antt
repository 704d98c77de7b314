-- A change and entries that were committed together.
use Rattle.desk_types.proofs.Common.{◌++◌, ◌+◌, ◌<◌, ◌∙◌, ◌≡◌, accept, arith, Basis, Err, false, IsChange}
use Rattle.desk_types.proofs.Common.{IsJudged, IsMinute, IsStamped, IsTrue, length, List, None, Ok}
use Rattle.desk_types.proofs.Common.{Result, subst, sym, true≢false}
use Rattle.desk_laws.proofs.Common.{Stamped, Two}
use Rattle.desk_answers.specs.{Commands.earlier_answer, declared.answer.Answer.Answer}
use Rattle.desk_laws.proofs.JudgedLists.{consistent}
use Rattle.desk_types.specs.declared.change.Change.{Change}
use Rattle.line_book.specs.declared.row.BookRow.{BookRow}
use Rattle.line_book_store.specs.Book.{GoOn, HoldsBook, HoldsBoth}
use Rattle.line_book_store.specs.Together.{AddsBoth, LeavesTogether}
use Rattle.line_replay.{proofs.Judgements.next_is, specs.Rows.ledger_tables}
use Rattle.line_schema.proofs.StandsAfter.{clean_before, lawful_on, still_open}
use Rattle.line_schema.specs.{Book.disowned, Book.HasBook, Book.LeavesBook, Book.StandsWith, Stands.Kept, Stands.Stands}
use Rattle.line_schema.specs.{Stands.with_command, Stands.WorksFor, Verdict.CommitsBoth}
use Rattle.line_schema.specs.{declared.store.LineStore.LineStore}
use Rattle.line_schema.specs.{declared.unavailable.Unavailable.Unavailable as Fault}
use Rattle.line_tables.proofs.Common.{after_edits, AreNew, Database, Edit, Ghosts, HasCleanDisk, Holds, KeepsCommit}
use Rattle.line_tables.proofs.Common.{state, Survives, Trees}
use Rattle.sqlite.proofs.StateLemmas.{survives_weaker}
use Rattle.std.proofs.Common.{OnErr}

in_err : {A E X : Type 0} (r : Result A E) (e : E) → r ≡ Err e → OnErr r X → X
in_err {A} {E} {X} r e is h = subst (λ (r : Result A E). OnErr r X) is h

module _ {S D : Type 0} (g : Ghosts S) (F : D → Basis → Type 0) (old new : LineStore S D) (L : Kept) (s : Stamped) (news before : List BookRow) where
  -- Nothing was committed.
  pub neither_noted : (r : Result Answer Fault) (fault : Fault) → r ≡ Err fault → OnErr r (Stands g F new L) → HasBook (state g new.conn) L before
      → (IsTrue L.own → Survives (state g old.conn) (state g new.conn) (LeavesBook (with_command L s) (before ++ news))) → CommitsBoth g F old new L r s news before
  neither_noted r fault is stands book survives = subst (λ (r : Result Answer Fault). CommitsBoth g F old new L r s news before) (sym is) (record {
    ok = λ first. tt;
    err = record { stands = in_err r fault is stands; book = book };
    survives = survives;
    alone = λ clean own. tt;
  })

  -- The committed contents stay.
  pub book_kept : {P : Trees → Type 0} → Survives (state g old.conn) (state g new.conn) P → (HasCleanDisk (state g new.conn) → KeepsCommit (state g old.conn) (state g new.conn)) → HasBook (state g old.conn) L before → HasBook (state g new.conn) L before
  book_kept {P} survives kept was clean own is =
      subst (λ (db : Database). HoldsBook db before) (sym ((kept clean).committed is)) (was (clean_before P survives clean) own ((kept clean).was_open is))

  module _ (edits : List Edit) (was : StandsWith g F old L before) (on : GoOn (length before) news) (after : after_edits edits (ledger_tables L.greatest L.history) ≡ ledger_tables L.greatest (accept L.history s)) (fresh : AreNew edits (ledger_tables L.greatest L.history))
      (survives : Survives (state g old.conn) (state g new.conn) (LeavesTogether edits news (state g old.conn))) where
    early : HasCleanDisk (state g new.conn) → HasCleanDisk (state g old.conn)
    early = clean_before (LeavesTogether edits news (state g old.conn)) survives

    -- What a crash leaves of both.
    left_together : HasCleanDisk (state g old.conn) → IsTrue L.own → (trees : Trees) → LeavesTogether edits news (state g old.conn) trees → LeavesBook (with_command L s) (before ++ news) trees
    left_together clean own trees left =
        subst (λ t. HoldsBoth t (before ++ news) trees) after (left.holds (ledger_tables L.greatest L.history) before (was.stands.tables clean own left.was_open) fresh (was.book clean own left.was_open) on)

    pub survives_together : IsTrue L.own → Survives (state g old.conn) (state g new.conn) (LeavesBook (with_command L s) (before ++ news))
    survives_together own = survives_weaker (state g old.conn) (state g new.conn) _ _ (λ clean trees left. left_together (early clean) own trees left) survives

    -- Both were committed.
    pub both_noted : (change : Change) → s ≡ change.stamped → old.count < old.greatest
        → IsChange Two L.history change.stamped change → IsStamped change.stamped → IsMinute change.minute
        → new.count ≡ old.count + 1 → new.greatest ≡ old.greatest → new.conn.in_transaction ≡ false → WorksFor F new.working (accept L.history change.stamped)
        → (HasCleanDisk (state g new.conn) → AddsBoth edits news (state g old.conn).committed (state g new.conn).committed)
        → (HasCleanDisk (state g new.conn) → IsTrue (state g old.conn).is_open × IsTrue (state g new.conn).is_open)
        → (HasCleanDisk (state g new.conn) → (trees : Trees) → (state g new.conn).may_leave trees → LeavesTogether edits news (state g old.conn) trees)
        → (answer : Answer) → CommitsBoth g F old new L (Ok answer) s news before
    both_noted change told room is stamped minute count greatest mode working done opened left answer =
        let stands = was.stands in
        let P = LeavesTogether edits news (state g old.conn) in
        let judged : IsJudged Two (accept L.history change.stamped) = (next_is Two L.history change.stamped change stamped minute is, stands.judged) in
        let both = λ (clean : HasCleanDisk (state g new.conn)) (own : IsTrue L.own).
        (done clean).adds (ledger_tables L.greatest L.history) before (stands.tables (early clean) own (opened clean).0) fresh (was.book (early clean) own (opened clean).0) on in
        record {
          ok = λ first. record {
            stands = subst (λ t. Stands g F new (with_command L t)) (sym told) (record {
              greatest = greatest ∙ stands.greatest;
              bound = stands.bound;
              count = omega (arith, count, stands.count);
              within = omega (arith, room, stands.count, stands.greatest);
              judged = judged;
              consistent = consistent Two _ judged;
              working = working;
              mode = mode;
              stays_open = still_open P survives stands.stays_open;
              lawful = λ clean own. lawful_on L.greatest L.history change.stamped (stands.lawful (early clean) own) judged (subst (λ t. earlier_answer L.history t ≡ None) told (first clean own)) (omega (arith, room, stands.count, stands.greatest));
              tables = λ clean own is_open. subst (λ t. Holds (state g new.conn).committed (ledger_tables L.greatest (accept L.history t))) told (subst (Holds (state g new.conn).committed) after (both clean own).1);
            });
            book = λ clean own is_open. (both clean own).2;
          };
          err = tt;
          survives = survives_together;
          alone = λ clean own trees may. left_together (early clean) own trees (left clean trees may);
        }

-- Whatever was committed, the store represents the history with the command, in a file that it promises nothing of.
pub accepted_kept : {S D : Type 0} (g : Ghosts S) (F : D → Basis → Type 0) (old new : LineStore S D) (L : Kept) (change : Change) {P : Trees → Type 0} → Stands g F old L → old.count < old.greatest
    → IsChange Two L.history change.stamped change → IsStamped change.stamped → IsMinute change.minute
    → new.count ≡ old.count + 1 → new.greatest ≡ old.greatest → new.conn.in_transaction ≡ false → WorksFor F new.working (accept L.history change.stamped)
    → Survives (state g old.conn) (state g new.conn) P → (N : Kept) × Stands g F new N
accepted_kept g F old new L change {P} stands room is stamped minute count greatest mode working survives =
    let judged : IsJudged Two (accept L.history change.stamped) = (next_is Two L.history change.stamped change stamped minute is, stands.judged) in (
      with_command (disowned L) change.stamped,
      record {
        greatest = greatest ∙ stands.greatest;
        bound = stands.bound;
        count = omega (arith, count, stands.count);
        within = omega (arith, room, stands.count, stands.greatest);
        judged = judged;
        consistent = consistent Two _ judged;
        working = working;
        mode = mode;
        stays_open = still_open P survives stands.stays_open;
        lawful = λ clean own. absurd (true≢false (sym own));
        tables = λ clean own. absurd (true≢false (sym own));
      },
    )

pub failed_kept : {S D : Type 0} (g : Ghosts S) (F : D → Basis → Type 0) (new : LineStore S D) (L : Kept) (r : Result Answer Fault) (fault : Fault) → r ≡ Err fault → OnErr r (Stands g F new L) → (N : Kept) × Stands g F new N
failed_kept g F new L r fault is stands = (L, in_err r fault is stands)

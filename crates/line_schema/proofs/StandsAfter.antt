-- The history that a store represents after a call.
use Rattle.desk_types.proofs.Common.{◌+◌, ◌<◌, ◌||◌, ◌∙◌, ◌≡◌, ◌≤◌, ◌⊎◌, accept, after_command, ap, arith}
use Rattle.desk_types.proofs.Common.{Basis, basis, Bool, change_of, Err, false, History, IfOk, IfSome}
use Rattle.desk_types.proofs.Common.{if◌then◌else◌, inl, inr, is_some, IsChange, IsJudged, IsLawful, IsMinute}
use Rattle.desk_types.proofs.Common.{IsSomeAnd, IsStamped, IsTrue, length, List, map, None, Ok, OnOk, Option}
use Rattle.desk_types.proofs.Common.{option_map_or, refl, reply_to, Result, same, Some, subst, sym, true}
use Rattle.desk_types.proofs.Common.{true≢false}
use Rattle.desk_laws.proofs.Common.{Accepted, Entry, Refused, Rules, Stamped, Two}
use Rattle.line_tables.proofs.Common.{after_edits, AreNew, Database, Edit, Edits, Ghosts, HasCleanDisk, Holds}
use Rattle.line_tables.proofs.Common.{HoldsAt, KeepsCommit, LeavesEdited, ReadsOnly, State, state, Survives}
use Rattle.line_tables.proofs.Common.{Trees}
use Rattle.desk_answers.proofs.FirstTime.{first-uid}
use Rattle.desk_answers.specs.{Commands.command_after, Commands.earlier_answer, Commands.is_full}
use Rattle.desk_answers.specs.{Commands.judged_answer, declared.answer.Answer.Answer}
use Rattle.desk_laws.proofs.JudgedLists.{consistent}
use Rattle.desk_types.specs.declared.change.Change.{Change}
use Rattle.line_replay.proofs.Judgements.{next_is, stamped_is}
use Rattle.line_replay.specs.{Expected.AreKept, Rows.ledger_tables}
use Rattle.line_schema.specs.{Answered.AnswersOrFails, Answered.Commits, Frames.ReadsStore, Stands.HasRows}
use Rattle.line_schema.specs.{Stands.Kept, Stands.ShowsTables, Stands.Stands, Stands.StaysOpen}
use Rattle.line_schema.specs.{Stands.with_command, Stands.WorksFor, declared.store.LineStore.LineStore}
use Rattle.line_schema.specs.{declared.unavailable.Unavailable.Unavailable as Fault}
use Rattle.line_tables.specs.Rows.{Tables}
use Rattle.line_traces.specs.{Working.IsWorking, declared.working.Working.Working}
use Rattle.sqlite.proofs.StateLemmas.{survives_weaker}
use Rattle.state_rows.specs.{Kept.KeptRows, Lists.IsListed, declared.lists.TraceLists.TraceLists}
use Rattle.std.proofs.{Common.OnErr, lemmas.Map.Keys.IsDistinct-cons}

pub judged_for : {D : Type 0} (F : D → Basis → Type 0) (o : Option (Working D)) (H : History) (change : Change)
    → IsSomeAnd o (λ w. (B : Basis) → F w.desk B → IsChange B.rules B.history change.stamped change) → WorksFor F o H → IsChange Two H change.stamped change
judged_for F None H change h works = absurd h
judged_for F (Some w) H change h works = h (basis Two H) works.stands

pub works_for : {D : Type 0} (F : D → Basis → Type 0) (o : Option (Working D)) (w : Working D) (H : History) → o ≡ Some w → WorksFor F o H → IsWorking F w (basis Two H)
works_for F o w H is works = subst (λ o. WorksFor F o H) is works

pub lawful_on : (greatest : _) (H : History) (s : Stamped) → IsLawful Two greatest H → IsJudged Two (accept H s) → earlier_answer H s ≡ None → length H < greatest → IsLawful Two greatest (accept H s)
lawful_on greatest H s lawful judged none room = record {
  judged = judged;
  uids = IsDistinct-cons same s.uid (map (λ (e : Entry). e.stamped.uid) H) (first-uid H s none) lawful.uids;
  numbers = omega (arith, room);
}

accepted_list : (rules : Rules) (H : History) (s : Stamped) (change : Change) → IsChange rules H s change → accept H change.stamped ≡ after_command rules H s
accepted_list rules H s change is = ap (accept H) (stamped_is rules H s change is) ∙ sym (ap (λ o. option_map_or (λ _. H) o (accept H s)) is.accepted)

pub first_as : (L : Kept) (s : Stamped) (change : Change) → IsChange Two L.history s change → earlier_answer L.history s ≡ None → earlier_answer L.history change.stamped ≡ None
first_as L s change is none = subst (λ t. earlier_answer L.history t ≡ None) (sym (stamped_is Two L.history s change is)) none

pub answered_as : (H : History) (s : Stamped) (change : Change) (r : Result Answer Fault) → IsChange Two H s change → IfOk r (λ a. a ≡ judged_answer H change.stamped (Accepted change.detail)) → IfOk r (λ a. a ≡ judged_answer H s (reply_to Two H s))
answered_as H s change (Ok a) is told = told ∙ ap (λ (c : Change). judged_answer H c.stamped (Accepted c.detail)) is.value ∙ sym (ap (λ o. judged_answer H s (option_map_or Refused o (Accepted (change_of H s).detail))) is.accepted)
answered_as H s change (Err e) is told = tt

pub accepted_to : (P : History → Type 0) (r : Result Answer Fault) (H : History) (s : Stamped) (change : Change) → IsChange Two H s change → OnOk r (P (accept H change.stamped)) → OnOk r (P (after_command Two H s))
accepted_to P (Ok a) H s change is ok = subst P (accepted_list Two H s change is) ok
accepted_to P (Err e) H s change is ok = ok

-- ---- a connection after a call

module _ {old new : State} (P : Trees → Type 0) (survives : Survives old new P) where
  pub clean_before : HasCleanDisk new → HasCleanDisk old
  clean_before clean = omega (arith, survives.clean, clean)

  pub still_open : StaysOpen old → StaysOpen new
  still_open was clean = elim (was (clean_before clean)) [
    | inl was_open ↦ elim (survives.closes clean was_open) [ inl still ↦ inl still | inr more ↦ inr (omega (arith, more)) ]
    | inr failed ↦ inr (omega (arith, survives.counts, failed))
  ]

-- What holds of an open connection holds, unless it is shut.
unless_shut : {Holds Failed : Type 0} (is_open : Bool) → (IsTrue is_open → Holds) → IsTrue is_open ⊎ Failed → Holds ⊎ (Failed × (is_open ≡ false))
unless_shut true holds stays = inl (holds refl)
unless_shut false holds (inl is_open) = absurd (cc)
unless_shut false holds (inr failed) = inr (failed, refl)

pub not_committed : {S D : Type 0} (g : Ghosts S) (F : D → Basis → Type 0) (old new : LineStore S D) (L : Kept) (r : Result Answer Fault) (s : Stamped) (e : Fault)
    → r ≡ Err e → (IsTrue L.own → Survives (state g old.conn) (state g new.conn) (HoldsAt (ledger_tables L.greatest (accept L.history s)))) → Commits g F old new L r s
not_committed g F old new L r s e is survives =
    subst (λ (r : Result Answer Fault). Commits g F old new L r s) (sym is) (record { ok = λ first. tt; survives = survives; alone = λ clean own. tt })

module _ {S D : Type 0} (g : Ghosts S) (F : D → Basis → Type 0) where
  -- If the tables are not its own, the store promises less.
  pub disowned : (store : LineStore S D) (L : Kept) → Stands g F store L → Stands g F store (record L { own = false })
  disowned store L s = record {
    greatest = s.greatest;
    bound = s.bound;
    count = s.count;
    within = s.within;
    judged = s.judged;
    consistent = s.consistent;
    working = s.working;
    mode = s.mode;
    stays_open = s.stays_open;
    lawful = λ clean own. absurd (true≢false (sym own));
    tables = λ clean own. absurd (true≢false (sym own));
  }

  pub remade : {P : Trees → Type 0} (old new : LineStore S D) (H : History) → new.greatest ≡ old.greatest → new.count ≡ length H → WorksFor F new.working H → new.conn.in_transaction ≡ false
      → IsJudged Two H → Survives (state g old.conn) (state g new.conn) P
      → (L : Kept) → Stands g F old L → length H ≤ L.greatest → Stands g F new (record { greatest = L.greatest; history = H; own = false })
  remade {P} old new H greatest count working mode judged survives L s within = record {
    greatest = greatest ∙ s.greatest;
    bound = s.bound;
    count = count;
    within = within;
    judged = judged;
    consistent = consistent Two _ judged;
    working = working;
    mode = mode;
    stays_open = still_open P survives s.stays_open;
    lawful = λ clean own. absurd (true≢false (sym own));
    tables = λ clean own. absurd (true≢false (sym own));
  }

  -- The committed contents stay, and the working state is of the same history if it is loaded.
  pub stays : {P : Trees → Type 0} (old new : LineStore S D) (L : Kept) → new.greatest ≡ old.greatest → new.count ≡ length L.history → WorksFor F new.working L.history → new.conn.in_transaction ≡ false
      → Survives (state g old.conn) (state g new.conn) P → (HasCleanDisk (state g new.conn) → KeepsCommit (state g old.conn) (state g new.conn)) → Stands g F old L → Stands g F new L
  stays {P} old new L greatest count working mode survives kept s = record {
    greatest = greatest ∙ s.greatest;
    bound = s.bound;
    count = count;
    within = s.within;
    judged = s.judged;
    consistent = s.consistent;
    working = working;
    mode = mode;
    stays_open = still_open P survives s.stays_open;
    lawful = λ clean own. s.lawful (clean_before P survives clean) own;
    tables = λ clean own is_open. subst (λ (db : Database). Holds db (ledger_tables L.greatest L.history)) (sym ((kept clean).committed is_open)) (s.tables (clean_before P survives clean) own ((kept clean).was_open is_open));
  }

  -- A call failed: memory was taken for the trace indexes at most, and the committed contents stay.
  pub fails : {P : Trees → Type 0} (R : D → KeptRows) (old new : LineStore S D) (w : Working D) (lists : TraceLists) (L : Kept) (r : Result Answer Fault) (told : Answer) (next : History) (e : Fault) → r ≡ Err e
      → old.working ≡ Some w → new.working ≡ Some (record { desk = w.desk; lists = lists }) → ((H : History) → IsListed w.lists H → IsListed lists H) → new.greatest ≡ old.greatest → new.count ≡ old.count → new.conn.in_transaction ≡ false
      → Survives (state g old.conn) (state g new.conn) P → (HasCleanDisk (state g new.conn) → KeepsCommit (state g old.conn) (state g new.conn)) → Stands g F old L → AnswersOrFails g F R old new L r told next
  fails R old new w lists L r told next e err was is listed greatest count mode survives kept s =
      let works = works_for F old.working w L.history was s.working in
      let same : WorksFor F new.working L.history = subst (λ o. WorksFor F o L.history) (sym is) (record { stands = works.stands; listed = listed L.history works.listed }) in
      subst (λ (r : Result Answer Fault). AnswersOrFails g F R old new L r told next) (sym err) (record {
        answer = tt;
        err = stays old new L greatest (count ∙ s.count) same mode survives kept s;
        rows = λ rows. tt;
        rows_stay = λ rows. subst (λ o. IfSome o (λ x. AreKept (R x.desk) L.history)) (sym is) (subst (λ o. IfSome o (λ x. AreKept (R x.desk) L.history)) was rows);
      })

  pub stands_on : {P : Trees → Type 0} (old new : LineStore S D) (L : Kept) (change : Change) (edits : List Edit) → Stands g F old L → old.count < old.greatest
      → IsChange Two L.history change.stamped change → IsStamped change.stamped → IsMinute change.minute
      → new.count ≡ old.count + 1 → new.greatest ≡ old.greatest → new.conn.in_transaction ≡ false → WorksFor F new.working (accept L.history change.stamped)
      → after_edits edits (ledger_tables L.greatest L.history) ≡ ledger_tables L.greatest (accept L.history change.stamped) → AreNew edits (ledger_tables L.greatest L.history)
      → Survives (state g old.conn) (state g new.conn) P → (HasCleanDisk (state g new.conn) → Edits edits (state g old.conn).committed (state g new.conn).committed)
      → (HasCleanDisk (state g new.conn) → IsTrue (state g old.conn).is_open) → (HasCleanDisk (state g new.conn) → IsTrue L.own → earlier_answer L.history change.stamped ≡ None)
      → Stands g F new (with_command L change.stamped)
  stands_on {P} old new L change edits s room is stamped minute count greatest mode working after fresh survives done was_open first = record {
    greatest = greatest ∙ s.greatest;
    bound = s.bound;
    count = omega (arith, count, s.count);
    within = omega (arith, room, s.count, s.greatest);
    judged = judged;
    consistent = consistent Two _ judged;
    working = working;
    mode = mode;
    stays_open = still_open P survives s.stays_open;
    lawful = λ clean own. lawful_on L.greatest L.history change.stamped (s.lawful (clean_before P survives clean) own) judged (first clean own) (omega (arith, room, s.count, s.greatest));
    tables = λ clean own is_open.
        subst (Holds (state g new.conn).committed) after (done clean (ledger_tables L.greatest L.history) (s.tables (clean_before P survives clean) own (was_open clean)) fresh).1;
  }
    where
      judged : IsJudged Two (accept L.history change.stamped)
      judged = (next_is Two L.history change.stamped change stamped minute is, s.judged)

  pub read_on : {P : Trees → Type 0} (old new : LineStore S D) → new.greatest ≡ old.greatest → new.count ≡ old.count → new.working ≡ old.working → (old.conn.in_transaction ≡ false → new.conn.in_transaction ≡ false)
      → Survives (state g old.conn) (state g new.conn) P → (HasCleanDisk (state g new.conn) → KeepsCommit (state g old.conn) (state g new.conn)) → (L : Kept) → Stands g F old L → Stands g F new L
  read_on old new greatest count working mode survives kept L s =
      stays old new L greatest (count ∙ s.count) (subst (λ (o : Option (Working D)). WorksFor F o L.history) (sym working) s.working) (mode s.mode) survives kept s

  pub reads_on : (old new : LineStore S D) → new.greatest ≡ old.greatest → new.count ≡ old.count → new.working ≡ old.working → ReadsOnly g old.conn new.conn → ReadsStore g F old new
  reads_on old new greatest count working reads = record { stands = read_on old new greatest count working reads.mode reads.survives reads.kept; working = working; reads = reads }

  pub stands_still : (store : LineStore S D) (L : Kept) (s : Stamped) → (is_some (earlier_answer L.history s) || is_full L.greatest L.history) ≡ true → Stands g F store L → Stands g F store (record L { history = command_after Two L.greatest L.history s })
  stands_still store L s settled stands = subst (λ H. Stands g F store (record L { history = H })) (sym (ap (λ b. if b then L.history else after_command Two L.history s) settled)) stands

  -- Every table is that of the history, unless the connection is shut.
  pub tables_there : (store : LineStore S D) (L : Kept) → Stands g F store L → ShowsTables g store L
  tables_there store L s clean own = unless_shut (state g store.conn).is_open (s.tables clean own) (s.stays_open clean)

  pub stands_either : (r : Result Answer Fault) (new : LineStore S D) (L M : Kept) → OnOk r (Stands g F new M) → OnErr r (Stands g F new L) → (N : Kept) × Stands g F new N
  stands_either (Ok a) new L M ok err = (M, ok)
  stands_either (Err e) new L M ok err = (L, err)

  pub accepted_as : (r : Result Answer Fault) (new : LineStore S D) (L : Kept) (s : Stamped) (change : Change) → IsChange Two L.history s change → OnOk r (Stands g F new (with_command L change.stamped))
      → OnOk r (Stands g F new (record L { history = after_command Two L.history s }))
  accepted_as r new L s change is ok = accepted_to (λ H. Stands g F new (record L { history = H })) r L.history s change is ok

-- The tables that a crash may leave of edits, if the tables were those of the history.
module _ (old : State) (tables after : Tables) (edits : List Edit) (is : after_edits edits tables ≡ after) (new : AreNew edits tables) (holds : HasCleanDisk old → IsTrue old.is_open → Holds old.committed tables) where
  pub left_on : HasCleanDisk old → (trees : Trees) → LeavesEdited edits old trees → HoldsAt after trees
  left_on clean trees left = subst (λ t. HoldsAt t trees) is (left.holds tables (holds clean left.was_open) new).0

  pub survives_on : (next : State) → Survives old next (LeavesEdited edits old) → Survives old next (HoldsAt after)
  survives_on next h = survives_weaker old next _ _ (λ clean trees left. left_on (omega (arith, h.clean, clean)) trees left) h

-- The answer by the row that has the UniqueID.
use Rattle.desk_types.proofs.Common.{[], ◌∙◌, ◌∷◌, ◌≡◌, ap, Bool, cases_Bool, false, filter, History}
use Rattle.desk_types.proofs.Common.{if◌then◌else◌, inl, inr, IsJudged, IsTrue, None, Option, refl, same}
use Rattle.desk_types.proofs.Common.{same-true, Some, sym, true}
use Rattle.desk_laws.proofs.Common.{Entry, Rules, Stamped}
use Rattle.line_tables.proofs.Common.{accepted_in, has_uid, Holds, Reads, Row, row_of, State}
use Rattle.desk_answers.specs.Commands.{answer_under, earlier_answer}
use Rattle.desk_types.specs.Command.{IsEntry}
use Rattle.line_replay.{proofs.Tests.uid_test, specs.Rows.entry_row, specs.Rows.ledger_tables}
use Rattle.line_replay.{specs.Rows.rows_of}
use Rattle.line_tables.{proofs.Holding.row_held, specs.declared.edit.Accepted.Accepted}

-- The place of an entry with the UniqueID.
pub record Stood (H : History) (s : Stamped) (row : Row) : Type 0 where
  pub before : History
  pub entry : Entry
  pub in_range : IsEntry entry
  pub uid : entry.stamped.uid ≡ s.uid
  pub is : row ≡ entry_row before entry
  pub answer : earlier_answer H s ≡ Some (answer_under before entry s)

stepped : (e : Entry) (G : History) (s : Stamped) (b : Bool) → same e.stamped.uid s.uid ≡ b → earlier_answer (e ∷ G) s ≡ (if b then Some (answer_under G e s) else earlier_answer G s)
stepped e G s b is = ap (λ t. if t then Some (answer_under G e s) else earlier_answer G s) is

filtered : (e : Entry) (G : History) (s : Stamped) (b : Bool) → same e.stamped.uid s.uid ≡ b
    → filter (has_uid s.uid) (rows_of (e ∷ G)) ≡ (if b then entry_row G e ∷ filter (has_uid s.uid) (rows_of G) else filter (has_uid s.uid) (rows_of G))
filtered e G s b is = ap (λ t. if t then entry_row G e ∷ filter (has_uid s.uid) (rows_of G) else filter (has_uid s.uid) (rows_of G)) (uid_test s.uid G e ∙ is)

pub none_stood : (H : History) (s : Stamped) → filter (has_uid s.uid) (rows_of H) ≡ [] → earlier_answer H s ≡ None
none_stood [] s h = refl
none_stood (e ∷ G) s h = elim (cases_Bool (same e.stamped.uid s.uid)) [
  | inl is ↦ absurd (let found = sym (filtered e G s true is) ∙ h in cc)
  | inr not ↦ stepped e G s false not ∙ none_stood G s (sym (filtered e G s false not) ∙ h)
]

pub one_stood : (rules : Rules) (H : History) (s : Stamped) (row : Row) → IsJudged rules H → filter (has_uid s.uid) (rows_of H) ≡ row ∷ [] → Stood H s row
one_stood rules [] s row judged h = absurd cc
one_stood rules (e ∷ G) s row judged h = elim (cases_Bool (same e.stamped.uid s.uid)) [
  | inl is ↦
      let found = sym (filtered e G s true is) ∙ h in
      let first : entry_row G e ≡ row = cc in
      record { before = G; entry = e; in_range = judged.0.in_range; uid = same-true e.stamped.uid s.uid is; is = sym first; answer = stepped e G s true is }
  | inr not ↦
      let stood = one_stood rules G s row judged.1 (sym (filtered e G s false not) ∙ h) in
      record { before = stood.before; entry = stood.entry; in_range = stood.in_range; uid = stood.uid; is = stood.is; answer = stepped e G s false not ∙ stood.answer }
]

pub looked_up : (old : State) (greatest : _) (H : History) (s : Stamped) (o : Option Accepted) → (IsTrue old.is_open → Holds old.committed (ledger_tables greatest H))
    → Reads old (λ db. filter (has_uid s.uid) (accepted_in db) ≡ row_of o) → filter (has_uid s.uid) (rows_of H) ≡ row_of o
looked_up old greatest H s o holds found = row_held old (ledger_tables greatest H) (holds found.was_open) (has_uid s.uid) o found

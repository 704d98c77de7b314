-- A file that was migrated from version 1 to version 2.
use Rattle.desk_types.proofs.Common.{◌∙◌, ◌≡◌, ap, Basis, History, IsTrue, map, subst, sym}
use Rattle.desk_laws.proofs.Common.{judged-by-two}
use Rattle.line_tables.proofs.Common.{accepted_columns, accepted_in, Database, HasCleanDisk, HoldsBy, IsOurs}
use Rattle.line_tables.proofs.Common.{KeepsCommit, LeavesMigrated, Migrated, One, Reads, State, Survives}
use Rattle.line_tables.proofs.Common.{survives_then, Trees}
use Rattle.line_replay.specs.Rows.{ledger_tables}
use Rattle.line_schema.{proofs.ReadOfCommitted.opened_holds, specs.Opening.IsNamedBy, specs.Opening.IsOpened}
use Rattle.line_schema.{specs.Versions.IsMigrated, specs.declared.opening.Opened.Opened}

-- The tables that a crash may leave, by the commit before calls that kept it.
left_before : (old mid : State) (trees : Trees) → KeepsCommit old mid → LeavesMigrated mid trees → LeavesMigrated old trees
left_before old mid trees kept left = record {
  was_open = kept.was_open left.was_open;
  holds = λ tables holds.
      let same = kept.committed left.was_open in
      let found = left.holds tables (subst (λ (db : Database). HoldsBy One db tables) (sym same) holds) in
      (found.0, λ indexed has. found.1 indexed (ap (λ (db : Database). db.schema) same ∙ has));
}

pub survives_migration : (old mid new : State) → (HasCleanDisk new → KeepsCommit old mid) → Survives old mid (λ _. ⊥) → Survives mid new (LeavesMigrated mid) → Survives old new (LeavesMigrated old)
survives_migration old mid new kept read written =
    survives_then old mid new (λ _. ⊥) (LeavesMigrated mid) (LeavesMigrated old) (λ clean trees none. absurd none) (λ clean trees left. left_before old mid trees (kept clean) left) read written

pub migrated_on : {D : Type 0} (F : D → Basis → Type 0) (Clean : Type 0) (old mid new : State) (opened : Opened D) (H : History) → IsOpened F Clean old One opened H → Clean → IsNamedBy One old
    → (IsTrue old.is_open → old.now ≡ old.committed) → KeepsCommit old mid → Migrated mid.committed new.committed → IsTrue mid.is_open × IsTrue new.is_open → ((trees : Trees) → new.may_leave trees → LeavesMigrated mid trees)
    → IsMigrated old new opened.greatest H opened.count
migrated_on F Clean old mid new opened H o clean named settled kept done is_open left = record {
  counted = o.count;
  by_one = λ ours. ((o.rows clean).are ours).lawful;
  by_two = λ ours.
      let lawful = ((o.rows clean).are ours).lawful in
      record { judged = judged-by-two One H lawful.judged; uids = lawful.uids; numbers = lawful.numbers };
  before = before;
  same = λ ours. ap (map accepted_columns) (done.same (held ours).indexed (held ours).schema).0 ∙ ap accepted_in same;
  after = λ ours. done.holds (ledger_tables opened.greatest H) (held ours);
  layout = λ indexed has. done.layout indexed (ap (λ (db : Database). db.schema) same ∙ has);
  stays_open = is_open.1;
  alone = λ trees may ours. ((left trees may).holds (ledger_tables opened.greatest H) (held ours)).0;
}
  where
    before : Reads old (λ db. HoldsBy One db (ledger_tables opened.greatest H))
    before = opened_holds F Clean old One opened H o named settled clean

    same : mid.committed ≡ old.committed
    same = kept.committed is_open.0

    held : IsOurs old.committed.schema → HoldsBy One mid.committed (ledger_tables opened.greatest H)
    held ours = subst (λ (db : Database). HoldsBy One db (ledger_tables opened.greatest H)) (sym same) (before.are ours)

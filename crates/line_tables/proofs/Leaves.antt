-- What a transaction of its own commits, and what may remain after a crash that follows.
use Rattle.desk_types.proofs.Common.{[], ◌∙◌, ◌≡◌, ap, arith, false, IsTrue, List, on_ok_weaker, OnOk, refl}
use Rattle.desk_types.proofs.Common.{Result, subst, sym, true, ℕ}
use Rattle.line_tables.proofs.Common.{Database, Edit, Error, Ghosts, HasCleanDisk, Held, Holds, HoldsBy}
use Rattle.line_tables.proofs.Common.{KeepsOthers, LeavesEdited, LeavesMigrated, Migrated, no_schema, One}
use Rattle.line_tables.proofs.Common.{state, Survives, survives_then, Trees, Writes}
use Rattle.line_tables.specs.Calls.{Edited, HoldsBlank, LeavesBlank, Makes, Migrates}
use Rattle.sqlite.{proofs.Callers.survives_begin, specs.State.KeepsCounts, specs.State.Shows}

-- After Ok this is committed, and a crash may leave only that. Before, it may also leave the earlier contents.
pub record Ends {S A : Type 0} (g : Ghosts S) (old new : Held S) (r : Result A Error) (Done : Database → Type 0) (Leaves : Trees → Type 0) : Type 0 where
  pub done : HasCleanDisk (state g new) → OnOk r (Done (state g new).committed)
  pub crash : Survives (state g old) (state g new) Leaves
  pub alone : HasCleanDisk (state g new) → OnOk r ((trees : Trees) → (state g new).may_leave trees → Leaves trees)

-- A transaction that began on the first connection, made its changes up to the third, and was committed.
pub ends : {S A : Type 0} (g : Ghosts S) (old first last end new : Held S) (r : Result A Error) (Done : Database → Type 0) (Leaves : Trees → Type 0) → first ≡ record old { in_transaction = true } → end ≡ new
    → (HasCleanDisk (state g last) → Done (state g last).now × Leaves (state g last).now.trees) → Survives (state g first) (state g last) (λ _. ⊥)
    → (HasCleanDisk (state g end) → OnOk r (IsTrue (state g last).in_transaction × Shows (state g last) (state g end) (state g last).now (state g last).now false × KeepsCounts (state g last) (state g end) × ((state g end).marks ≡ [])))
    → Survives (state g last) (state g end) (λ db. db ≡ (state g last).now.trees) → (IsTrue (state g new).is_open → (db : Trees) → (state g new).may_leave db → db ≡ (state g new).committed.trees) → Ends g old new r Done Leaves
ends g old first last end new r Done Leaves begun same did within ok survives alone =
    let is : HasCleanDisk (state g end) → Done (state g last).now × Leaves (state g last).now.trees = λ clean. did (omega (arith, survives.clean)) in
    let left : HasCleanDisk (state g end) → (trees : Trees) → trees ≡ (state g last).now.trees → Leaves trees = λ clean trees it. subst Leaves (sym it) (is clean).1 in
    let inside = survives_begin g old (state g last) _ (subst (λ h. Survives (state g h) (state g last) (λ _. ⊥)) begun within) in
    subst (λ h. (IsTrue (state g h).is_open → (db : Trees) → (state g h).may_leave db → db ≡ (state g h).committed.trees) → Ends g old h r Done Leaves) same (λ only. record {
      done = λ clean. on_ok_weaker r (λ all. subst Done (sym all.1.committed_is) (is clean).0) (ok clean);
      crash = survives_then (state g old) (state g last) (state g end) _ _ Leaves (λ _ db none. absurd none) left inside survives;
      alone = λ clean. on_ok_weaker r (λ all trees may. left clean trees (only all.1.is_open trees may ∙ ap (λ (db : Database). db.trees) all.1.committed_is)) (ok clean);
    }) alone

module _ {S : Type 0} (g : Ghosts S) (old last : Held S) (settled : IsTrue (state g old).is_open → (state g old).now ≡ (state g old).committed) where
  pub edits_made : (edits : List Edit) → Writes edits (state g (record old { in_transaction = true })) (state g last) → Edited edits (state g old).committed (state g last).now × LeavesEdited edits (state g old) (state g last).now.trees
  edits_made edits w =
      let same = settled w.was_open in
      let done : Edited edits (state g old).committed (state g last).now = subst (λ (db : Database). Edited edits db (state g last).now) same (record { tables = w.done; others = w.others }) in (
        done,
        record {
          was_open = w.was_open;
          holds = λ tables holds fresh.
              let now = done.tables tables holds fresh in
              (((state g last).now, now.1, w.sound tables (subst (λ (db : Database). Holds db tables) (sym same) holds) fresh, refl), now.0);
          others = done.others.rows;
        },
      )

  pub migration_made : Migrates (state g (record old { in_transaction = true })) (state g last) → Migrated (state g old).committed (state g last).now × LeavesMigrated (state g old) (state g last).now.trees
  migration_made w =
      let same = settled w.was_open in
      let done : Migrated (state g old).committed (state g last).now = subst (λ (db : Database). Migrated db (state g last).now) same w.done in (
        done,
        record {
          was_open = w.was_open;
          holds = λ tables holds. (((state g last).now, done.holds tables holds, w.sound tables (subst (λ (db : Database). HoldsBy One db tables) (sym same) holds), refl), done.layout);
        },
      )

pub blank_made : {S : Type 0} (g : Ghosts S) (old last : Held S) (greatest : ℕ) → Makes greatest (state g (record old { in_transaction = true })) (state g last)
    → ((state g old).now.schema ≡ no_schema → HoldsBlank greatest (state g last).now) × LeavesBlank greatest (state g old) (state g last).now.trees
blank_made g old last greatest w = (w.done, record { was_open = w.was_open; holds = λ blank. let done = w.done blank in (((state g last).now, done.tables, w.sound blank, refl), done.layout) })

-- Other people's tables are unchanged by edits.
pub others_kept : {A E : Type 0} (edits : List Edit) (before after : Database) (r : Result A E) → OnOk r (Edited edits before after) → OnOk r (KeepsOthers before after)
others_kept edits before after r done = on_ok_weaker r (λ edited. edited.others) done

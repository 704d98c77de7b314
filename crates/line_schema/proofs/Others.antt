-- The file and other people's tables in it, over each step of a command.
use Rattle.desk_types.proofs.Common.{⊤, ◌≡◌, arith, Err, inl, inr, IsTrue, List, Ok, OnOk, refl, Result}
use Rattle.desk_types.proofs.Common.{subst, sym}
use Rattle.line_tables.proofs.Common.{Database, Edit, Ghosts, HasCleanDisk, Held, KeepsCommit, KeepsOthers}
use Rattle.line_tables.proofs.Common.{LeavesEdited, ReadsOnly, State, state, Survives, survives_then, Trees}
use Rattle.line_schema.specs.Frames.{LeavesFile, LeavesOthers, LetsOthersBe}
use Rattle.line_tables.proofs.Beside.{others_stay, others_stay_then}
use Rattle.sqlite.proofs.StateLemmas.{survives_weaker}
use Rattle.std.proofs.Common.{OnErr}

pub let_be : (s : State) → LetsOthersBe s s
let_be s = record { was_open = λ clean is. is; rows = λ clean is. others_stay s.committed; crash = λ clean trees may. inl may }

kept_rows : (old new : Database) → new ≡ old → KeepsOthers old new
kept_rows old new same = subst (KeepsOthers old) (sym same) (others_stay old)

pub let_be_reads : {S : Type 0} (g : Ghosts S) (old new : Held S) → ReadsOnly g old new → LetsOthersBe (state g old) (state g new)
let_be_reads g old new reads = record {
  was_open = λ clean is. (reads.kept clean).was_open is;
  rows = λ clean is. kept_rows (state g old).committed (state g new).committed ((reads.kept clean).committed is);
  crash = λ clean trees may. elim (reads.survives.crash clean trees may) [ inl was ↦ inl was | inr none ↦ absurd none ];
}

pub let_be_then : (old mid new : State) → (HasCleanDisk new → HasCleanDisk mid) → LetsOthersBe old mid → LetsOthersBe mid new → LetsOthersBe old new
let_be_then old mid new early one two = record {
  was_open = λ clean is. one.was_open (early clean) (two.was_open clean is);
  rows = λ clean is. others_stay_then old.committed mid.committed new.committed (one.rows (early clean) (two.was_open clean is)) (two.rows clean is);
  crash = λ clean trees may. elim (two.crash clean trees may) [
    | inl was ↦ one.crash (early clean) trees was
    | inr left ↦ inr (record { was_open = one.was_open (early clean) left.was_open; rows = (others_stay_then old.committed mid.committed (at trees) (one.rows (early clean) left.was_open) (left_at trees left)).rows })
  ];
}
  where
    at : Trees → Database
    at trees = record mid.committed { trees = trees }

    left_at : (trees : Trees) → LeavesOthers mid trees → KeepsOthers mid.committed (at trees)
    left_at trees left = record { schema = λ layout has. refl; rows = left.rows }

-- Edits were committed, or not.
pub let_be_edited : {E : Type 0} (old new : State) (edits : List Edit) (r : Result ⊤ E) → Survives old new (LeavesEdited edits old) → (HasCleanDisk new → OnOk r (KeepsOthers old.committed new.committed)) → (HasCleanDisk new → OnOk r (IsTrue old.is_open × IsTrue new.is_open))
    → (HasCleanDisk new → OnErr r (KeepsCommit old new)) → LetsOthersBe old new
let_be_edited {E} old new edits r survives done is_open neither = record {
  was_open = λ clean is. opened r (is_open clean) (neither clean) is;
  rows = λ clean is. kept r (done clean) (neither clean) is;
  crash = λ clean trees may. elim (survives.crash clean trees may) [ inl was ↦ inl was | inr left ↦ inr (record { was_open = left.was_open; rows = left.others }) ];
}
  where
    opened : (r : Result ⊤ E) → OnOk r (IsTrue old.is_open × IsTrue new.is_open) → OnErr r (KeepsCommit old new) → IsTrue new.is_open → IsTrue old.is_open
    opened (Ok done) both none is = both.0
    opened (Err e) both kept is = kept.was_open is

    kept : (r : Result ⊤ E) → OnOk r (KeepsOthers old.committed new.committed) → OnErr r (KeepsCommit old new) → IsTrue new.is_open → KeepsOthers old.committed new.committed
    kept (Ok done) rows none is = rows
    kept (Err e) none same is = kept_rows old.committed new.committed (same.committed is)

-- ---- the file

pub survives_still : {P : Trees → Type 0} (s : State) → Survives s s P
survives_still s = record { clean = omega arith; shield = λ h. h; counts = omega arith; limit = refl; closes = λ clean was. inl was; crash = λ clean trees left. inl left }

pub file_stays : (s : State) → LeavesFile s s (λ _. ⊤)
file_stays s = record { clean = λ clean. clean; survives = survives_still s; others = let_be s }

pub file_read : {S : Type 0} (g : Ghosts S) (old new : Held S) → ReadsOnly g old new → LeavesFile (state g old) (state g new) (λ _. ⊥)
file_read g old new reads = record { clean = λ clean. omega (arith, reads.survives.clean, clean); survives = reads.survives; others = let_be_reads g old new reads }

pub file_then : (old mid new : State) → Survives old mid (λ _. ⊥) → LetsOthersBe old mid → LeavesFile mid new (λ _. ⊤) → LeavesFile old new (λ _. ⊤)
file_then old mid new survives others after = record {
  clean = λ clean. omega (arith, survives.clean, after.clean clean);
  survives = survives_then old mid new (λ _. ⊥) (λ _. ⊤) (λ _. ⊤) (λ clean trees none. tt) (λ clean trees left. tt) survives after.survives;
  others = let_be_then old mid new after.clean others after.others;
}

pub file_edited : {E : Type 0} (old new : State) (edits : List Edit) (r : Result ⊤ E) → Survives old new (LeavesEdited edits old) → (HasCleanDisk new → OnOk r (KeepsOthers old.committed new.committed)) → (HasCleanDisk new → OnOk r (IsTrue old.is_open × IsTrue new.is_open))
    → (HasCleanDisk new → OnErr r (KeepsCommit old new)) → LeavesFile old new (λ _. ⊤)
file_edited old new edits r survives done is_open neither = record {
  clean = λ clean. omega (arith, survives.clean, clean);
  survives = survives_weaker old new (LeavesEdited edits old) (λ _. ⊤) (λ clean trees left. tt) survives;
  others = let_be_edited old new edits r survives done is_open neither;
}

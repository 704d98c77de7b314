-- One call after another.
use Rattle.desk_types.proofs.Common.{◌∙◌, arith, inl, refl}
use Rattle.line_tables.proofs.Common.{Ghosts, Held, ReadsOnly, state, survives_then}
use Rattle.line_tables.{proofs.Keeps.keeps_same, proofs.Keeps.keeps_then, specs.Frames.InTransaction}
use Rattle.sqlite.specs.declared.transaction.Transaction.{Transaction}

pub reads_same : {S : Type 0} (g : Ghosts S) (held : Held S) → ReadsOnly g held held
reads_same g held = record {
  kept = λ _. keeps_same (state g held);
  mode = λ none. none;
  survives = record { clean = omega arith; shield = λ h. h; counts = omega arith; limit = refl; closes = λ _ is_open. inl is_open; crash = λ _ trees left. inl left };
}

pub reads_then : {S : Type 0} (g : Ghosts S) (old mid new : Held S) → ReadsOnly g old mid → ReadsOnly g mid new → ReadsOnly g old new
reads_then g old mid new one two = record {
  kept = λ clean. keeps_then (state g old) (state g mid) (state g new) (one.kept (omega (arith, two.survives.clean))) (two.kept clean);
  mode = λ none. two.mode (one.mode none);
  survives = survives_then (state g old) (state g mid) (state g new) _ _ (λ _. ⊥) (λ _ db none. none) (λ _ db none. none) one.survives two.survives;
}

pub within_then : {S : Type 0} (g : Ghosts S) (old mid new : Transaction S) → InTransaction g old mid → InTransaction g mid new → InTransaction g old new
within_then g old mid new one two = record {
  same_reference = two.same_reference ∙ one.same_reference;
  kept = λ clean. keeps_then (state g old.conn.now) (state g mid.conn.now) (state g new.conn.now) (one.kept (omega (arith, two.survives.clean))) (two.kept clean);
  survives = survives_then (state g old.conn.now) (state g mid.conn.now) (state g new.conn.now) _ _ (λ _. ⊥) (λ _ db none. none) (λ _ db none. none) one.survives two.survives;
}

-- What a crash leaves of a file that is opened.
use Rattle.desk_types.proofs.Common.{[], arith, Err, IsTrue, Ok, OnOk, Result}
use Rattle.line_book_store.specs.{Book.IsAlone}
use Rattle.line_schema.specs.{Book.LeavesBook, Stands.Kept}
use Rattle.line_tables.proofs.Common.{HasCleanDisk, State, Survives, survives_then, Trees}
use Rattle.sqlite.proofs.StateLemmas.{survives_weaker}
use Rattle.book_store.proofs.Loading.{nothing_left}
use Rattle.book_store.specs.Opened.{LeavesOpened}

-- Nothing was written in a file with a book.
pub only_read : {A E : Type 0} (L : Kept) (old new : State) (result : Result A E) → Survives old new (λ _. ⊥)
    → (IsAlone old.committed → ⊥) → LeavesOpened L old new result
only_read L old new result reads has = record {
  survives = λ own. survives_weaker old new (λ _. ⊥) _ (λ clean trees none. absurd none) reads;
  made = λ clean own alone. absurd (has alone);
}

back_then : {A E : Type 0} (P : Trees → Type 0) (mid new : State) (r : Result A E)
    → ((trees : Trees) → new.may_leave trees → mid.may_leave trees)
    → OnOk r ((trees : Trees) → mid.may_leave trees → P trees)
    → OnOk r ((trees : Trees) → new.may_leave trees → P trees)
back_then P mid new (Ok a) back leaves = λ trees may. leaves trees (back trees may)
back_then P mid new (Err e) back leaves = tt

-- The book was made, and then read.
pub made_then_read : {A E : Type 0} (L : Kept) (old mid new : State) (result : Result A E) → IsAlone old.committed
    → (IsTrue L.own → Survives old mid (LeavesBook L []))
    → (HasCleanDisk mid → IsTrue L.own → OnOk result ((trees : Trees) → mid.may_leave trees → LeavesBook L [] trees))
    → Survives mid new (λ _. ⊥) → LeavesOpened L old new result
made_then_read L old mid new result alone makes durable reads = record {
  survives = λ own. survives_then old mid new (LeavesBook L []) (λ _. ⊥) _ (λ clean trees left. (alone, left))
      (λ clean trees none. absurd none) (makes own) reads;
  made = λ clean own _. back_then (LeavesBook L []) mid new result (nothing_left mid new reads clean)
      (durable (omega (arith, reads.clean, clean)) own);
}

-- The parts of a connection that a call leaves unchanged.
use Rattle.std.specs.Prelude.{◌≡◌, false, IsTrue, Result, Err}
use Rattle.sqlite_trees.specs.declared.store.Store.{Ghosts}
use Rattle.sqlite.specs.declared.error.Error.{Error}
use Rattle.sqlite.specs.declared.error.Error.TheVariants.{SqliteFailure}
use Rattle.sqlite.specs.declared.error.ErrorCode.TheVariants.{TransactionState}
use Rattle.sqlite.specs.declared.transaction.Transaction.{Transaction}
use Rattle.sqlite.specs.Held.{Held, state}
use Rattle.sqlite.specs.State.{HasCleanDisk, Survives, KeepsCommit}

-- A call that only reads. It changes neither the committed contents nor the possible results of a
-- crash, and leaves no new transaction open.
pub record ReadsOnly {S : Type 0} (g : Ghosts S) (old new : Held S) : Type 0 where
  pub kept : HasCleanDisk (state g new) → KeepsCommit (state g old) (state g new)
  pub mode : old.in_transaction ≡ false → new.in_transaction ≡ false
  pub survives : Survives (state g old) (state g new) (λ _. ⊥)

-- A call inside a transaction. It changes neither the connection, nor the committed contents, nor the possible results
-- of a crash.
pub record InTransaction {S : Type 0} (g : Ghosts S) (old new : Transaction S) : Type 0 where
  pub same_reference : new.conn.ghost_name ≡ old.conn.ghost_name
  pub kept : HasCleanDisk (state g new.conn.now)
      → KeepsCommit (state g old.conn.now) (state g new.conn.now)
  pub survives : Survives (state g old.conn.now) (state g new.conn.now) (λ _. ⊥)

-- Nothing is done inside an open transaction of the caller.
abbrev pub IsRefusedInside : {S A : Type 0} → Result A Error → Held S → Held S → Type 0
IsRefusedInside result old new = IsTrue old.in_transaction
    → (result ≡ Err (SqliteFailure TransactionState)) × (new ≡ old)

-- A call that works in a transaction of its own. Inside an open transaction of the caller it does
-- nothing, and it leaves no new transaction open.
pub record InOwnTransaction {S A : Type 0} (result : Result A Error)
    (old new : Held S) : Type 0 where
  pub refused : IsRefusedInside result old new
  pub mode : old.in_transaction ≡ false → new.in_transaction ≡ false

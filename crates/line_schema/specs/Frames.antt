-- The parts of a store, and of a returned connection, that a call leaves unchanged.
use Rattle.std.specs.Prelude.{◌≡◌, ◌⊎◌, ℕ, true, false, IsTrue}
use Rattle.std.specs.List.{list_any}
use Rattle.sqlite_trees.specs.Tree.{Trees}
use Rattle.sqlite_trees.specs.declared.store.Store.{Ghosts}
use Rattle.sqlite.specs.State.{State, HasCleanDisk, KeepsCommit, Survives}
use Rattle.sqlite.specs.Held.{Held, state}
use Rattle.desk_types.specs.History.{Basis}
use Rattle.line_tables.specs.Calls.{LeavesBlank, HasOthers, KeepsOthers}
use Rattle.line_tables.specs.Frames.{ReadsOnly}
use Rattle.line_tables.specs.Names.{has_name}
use Rattle.line_schema.specs.declared.fault.OpenFault.{OpenFault}
use Rattle.line_schema.specs.declared.fault.OpenFault.TheVariants.{NotBlank, Unavailable}
use Rattle.line_schema.specs.declared.store.LineStore.{LineStore}
use Rattle.line_schema.specs.Stands.{ForKept, Kept, Stands, conn_of, state_of, has_desk}
use Rattle.line_schema.specs.Traces.{working_of}

-- A call that only reads: the store represents the same history, and its working state is unchanged.
pub record ReadsStore {S D : Type 0} (g : Ghosts S) (StandsFor : D → Basis → Type 0)
    (old new : LineStore S D) : Type 0 where
  pub stands : (L : Kept) → Stands g StandsFor old L
      → Stands g StandsFor new L
  pub working : working_of new ≡ working_of old
  pub reads : ReadsOnly g (conn_of old) (conn_of new)

-- A call that loads the desk from the tables if it isn't loaded. The store represents a history:
-- the same one if the disk is honest and the tables are the store's own. A crash leaves nothing
-- new.
pub record MakesDesk {S D : Type 0} (g : Ghosts S) (StandsFor : D → Basis → Type 0)
    (old new : LineStore S D) : Type 0 where
  pub at_hand : IsTrue (has_desk old) → new ≡ old
  pub kept : (L : Kept) × Stands g StandsFor new L
  pub stands : ForKept g StandsFor old new (Stands g StandsFor new)
  pub survives : Survives (state_of g old) (state_of g new) (λ _. ⊥)

-- No tables were created, and this is the fault. The committed contents stay, and no new
-- transaction is open. NotBlank leaves the connection unchanged. A crash leaves the same as before,
-- or the tables of an empty history.
pub record LeavesUnmade {S : Type 0} (g : Ghosts S) (greatest : ℕ) (old : Held S)
    (fault : OpenFault) (new : Held S) : Type 0 where
  pub reason : (fault ≡ Unavailable)
      ⊎ ((fault ≡ NotBlank) × (list_any has_name (state g old).now.schema.tables ≡ true))
  pub untouched : fault ≡ NotBlank → new ≡ old
  pub kept : HasCleanDisk (state g new) → KeepsCommit (state g old) (state g new)
  pub mode : old.in_transaction ≡ false → new.in_transaction ≡ false
  pub survives : Survives (state g old) (state g new) (LeavesBlank greatest (state g old))

-- Trees with other people's rows as of the last commit.
pub record LeavesOthers (old : State) (trees : Trees) : Type 0 where
  pub was_open : IsTrue old.is_open
  pub rows : HasOthers old.committed trees

-- Other people's tables behind ours, on an honest disk: while the connection is open their rows are
-- unchanged. A crash leaves the same as before, or trees with those rows.
pub record LetsOthersBe (old new : State) : Type 0 where
  pub was_open : HasCleanDisk new → IsTrue new.is_open → IsTrue old.is_open
  pub rows : HasCleanDisk new → IsTrue new.is_open → KeepsOthers old.committed new.committed
  pub crash : HasCleanDisk new → (trees : Trees) → new.may_leave trees
      → old.may_leave trees ⊎ LeavesOthers old trees

-- A call that may commit. An honest disk was honest before, and only a fault shuts the connection.
-- A crash leaves the same as before, or what the call commits. Other people's rows stay.
pub record LeavesFile (old new : State) (Commits : Trees → Type 0) : Type 0 where
  pub clean : HasCleanDisk new → HasCleanDisk old
  pub survives : Survives old new Commits
  pub others : LetsOthersBe old new

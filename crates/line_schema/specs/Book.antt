-- A store whose file has the book behind the desk's tables.
use Rattle.std.specs.Prelude.{◌≡◌, ◌≢◌, ◌⊎◌, ◌+◌, ⊤, ℕ, [], false, IsTrue, List, length, OnOk, Result}
use Rattle.sqlite_trees.specs.declared.store.Store.{Ghosts}
use Rattle.sqlite_trees.specs.Tree.{Trees}
use Rattle.sqlite.specs.Held.{Held, state}
use Rattle.sqlite.specs.State.{State, HasCleanDisk, KeepsCommit, Survives}
use Rattle.desk_types.specs.History.{Basis}
use Rattle.state_rows.specs.Kept.{KeptRows}
use Rattle.line_tables.specs.Line.{is_blank}
use Rattle.line_tables.specs.Rows.{blank}
use Rattle.line_book.specs.declared.row.BookRow.{BookRow}
use Rattle.line_book_store.specs.Book.{HoldsBook, HoldsBoth, LeavesEmpty}
use Rattle.line_replay.specs.Rows.{ledger_tables}
use Rattle.line_schema.specs.declared.fault.OpenFault.{OpenFault}
use Rattle.line_schema.specs.declared.fault.OpenFault.TheVariants.{NotBlank, Unavailable}
use Rattle.line_schema.specs.declared.store.LineStore.{LineStore}
use Rattle.line_schema.specs.declared.unavailable.Unavailable.{Unavailable as Fault}
use Rattle.line_schema.specs.Stands.{HasRows, Kept, Stands, has_desk, state_of}

-- If the disk is honest and the tables are the store's own, the committed book has these entries
-- while the connection is open.
abbrev pub HasBook : State → Kept → List BookRow → Type 0
HasBook s L entries =
    HasCleanDisk s → IsTrue L.own → IsTrue s.is_open → HoldsBook s.committed entries

-- The store represents the history, and its book has these entries.
pub record StandsWith {S D : Type 0} (g : Ghosts S) (StandsFor : D → Basis → Type 0)
    (store : LineStore S D) (L : Kept) (entries : List BookRow) : Type 0 where
  pub stands : Stands g StandsFor store L
  pub book : HasBook (state_of g store) L entries

-- The entry has the next number.
abbrev pub IsNextRow : BookRow → List BookRow → Type 0
IsNextRow e entries = e.number ≡ length entries + 1

-- The trees hold the tables of the history, and the book with these entries, in one database.
abbrev pub LeavesBook : Kept → List BookRow → Trees → Type 0
LeavesBook L entries = HoldsBoth (ledger_tables L.greatest L.history) entries

-- The history, in a file of which the store promises nothing.
abbrev pub disowned : Kept → Kept
disowned L = record L { own = false }

-- The empty book was committed, or the call failed. A crash leaves the history with the empty book, or
-- the same as before; if the book was committed, only both.
pub record MakesBook {S D : Type 0} (g : Ghosts S) (StandsFor : D → Basis → Type 0)
    (old new : LineStore S D) (L : Kept) (result : Result ⊤ Fault) : Type 0 where
  pub ok : OnOk result (StandsWith g StandsFor new L [])
  pub survives : IsTrue L.own → Survives (state_of g old) (state_of g new) (LeavesBook L [])
  pub alone : HasCleanDisk (state_of g new) → IsTrue L.own
      → OnOk result ((trees : Trees) → (state_of g new).may_leave trees → LeavesBook L [] trees)

-- The history of a new store, whose tables are its own in a file without any table.
abbrev pub new_kept : ℕ → State → Kept
new_kept greatest old =
    record { greatest = greatest; history = []; own = is_blank old.now.schema }

-- There was no table. The store has an empty history, an empty book, and a loaded desk. A crash
-- leaves desk and book together.
pub record MakesWithBook {S D : Type 0} (g : Ghosts S) (StandsFor : D → Basis → Type 0)
    (kept_rows : D → KeptRows) (conn : Held S) (greatest : ℕ) (store : LineStore S D)
    : Type 0 where
  pub stands : StandsWith g StandsFor store (new_kept greatest (state g conn)) []
  pub loaded : IsTrue (has_desk store)
  pub rows : HasRows kept_rows store []
  pub bare : (state g conn).now.schema.tables ≡ []
  pub stays_open : HasCleanDisk (state_of g store) → IsTrue (state_of g store).is_open
  pub leaves : Survives (state g conn) (state_of g store) (LeavesEmpty greatest (state g conn))
  pub alone : HasCleanDisk (state_of g store) → IsTrue (is_blank (state g conn).now.schema)
      → (trees : Trees) → (state_of g store).may_leave trees → HoldsBoth (blank greatest) [] trees

-- No tables were created, and this is the fault. The committed contents stay, and no new
-- transaction is open. NotBlank leaves the connection unchanged. A crash leaves the same as before,
-- or an empty desk and an empty book together.
pub record LeavesBothUnmade {S : Type 0} (g : Ghosts S) (greatest : ℕ) (old : Held S)
    (fault : OpenFault) (new : Held S) : Type 0 where
  pub reason : (fault ≡ Unavailable)
      ⊎ ((fault ≡ NotBlank) × ((state g old).now.schema.tables ≢ []))
  pub untouched : fault ≡ NotBlank → new ≡ old
  pub kept : HasCleanDisk (state g new) → KeepsCommit (state g old) (state g new)
  pub mode : old.in_transaction ≡ false → new.in_transaction ≡ false
  pub survives : Survives (state g old) (state g new) (LeavesEmpty greatest (state g old))

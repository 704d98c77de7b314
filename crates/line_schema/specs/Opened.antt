-- A store that was made or opened, in the file of a connection.
use Rattle.std.specs.Prelude.{◌≡◌, ℕ, [], false, IsTrue}
use Rattle.std.specs.List.{list_any}
use Rattle.sqlite_trees.specs.declared.store.Store.{Ghosts}
use Rattle.sqlite_trees.specs.Tree.{Trees}
use Rattle.sqlite.specs.Held.{Held, state}
use Rattle.sqlite.specs.State.{HasCleanDisk, Survives}
use Rattle.desk_types.specs.History.{Basis}
use Rattle.state_rows.specs.Kept.{KeptRows}
use Rattle.line_tables.specs.Calls.{LeavesBlank, Reads}
use Rattle.line_tables.specs.Frames.{ReadsOnly}
use Rattle.line_tables.specs.Line.{is_blank, is_ours}
use Rattle.line_tables.specs.Names.{has_name}
use Rattle.line_tables.specs.Rows.{Holds, HoldsAt, blank}
use Rattle.line_replay.specs.Rows.{ledger_tables}
use Rattle.line_schema.specs.declared.store.LineStore.{LineStore}
use Rattle.line_schema.specs.Opening.{IsNamed}
use Rattle.line_schema.specs.Stands.{HasRows, Kept, Stands, conn_of, has_desk, state_of}

module _ {S D : Type 0} (g : Ghosts S) (StandsFor : D → Basis → Type 0)
    (kept_rows : D → KeptRows) (conn : Held S) where
  -- There was no table of our names. The store has an empty history and a loaded desk. Its tables
  -- are its own if there was no table at all, and then a crash leaves only these.
  pub record MakesStore (greatest : ℕ) (store : LineStore S D) : Type 0 where
    pub stands : Stands g StandsFor store
        (record { greatest = greatest; history = []; own = is_blank (state g conn).now.schema })
    pub loaded : IsTrue (has_desk store)
    pub rows : HasRows kept_rows store []
    pub nameless : list_any has_name (state g conn).now.schema.tables ≡ false
    pub stays_open : HasCleanDisk (state_of g store) → IsTrue (state_of g store).is_open
    pub leaves : Survives (state g conn) (state_of g store) (LeavesBlank greatest (state g conn))
    pub alone : HasCleanDisk (state_of g store) → IsTrue (is_blank (state g conn).now.schema)
        → (trees : Trees) → (state_of g store).may_leave trees → HoldsAt (blank greatest) trees

  -- The tables are named as those of version 2, and hold the history on an honest disk. The desk is
  -- loaded, and the file was only read.
  pub record OpensStore (store : LineStore S D) (L : Kept) : Type 0 where
    pub own : L.own ≡ is_ours (state g conn).committed.schema
    pub stands : Stands g StandsFor store L
    pub tables : HasCleanDisk (state_of g store)
        → Reads (state g conn) (λ db. Holds db (ledger_tables L.greatest L.history))
    pub rows : HasRows kept_rows store L.history
    pub loaded : IsTrue (has_desk store)
    pub named : IsNamed (state g conn)
    pub reads : ReadsOnly g conn (conn_of store)

-- A store whose disk may fail at any point, even within a call. That a kill at that point leaves the same files is not proved.
use Rattle.std.specs.Prelude.{◌⊎◌, None, true}
use Rattle.sqlite_trees.specs.declared.store.Store.{Ghosts}
use Rattle.sqlite_trees.specs.Tree.{Trees}
use Rattle.sqlite.specs.State.{HasCleanDisk}
use Rattle.desk_types.specs.declared.command.Stamped.{Stamped}
use Rattle.desk_types.specs.History.{Basis, accept}
use Rattle.desk_answers.specs.Ledger.{Ledger}
use Rattle.gateway_http.specs.Requests.{Reports}
use Rattle.line_tables.specs.Rows.{HoldsAt}
use Rattle.line_replay.specs.Rows.{ledger_tables}
use Rattle.line_schema.specs.declared.store.LineStore.{LineStore}
use Rattle.line_schema.specs.Stands.{IsAcceptable, Kept, Stands, state_of}

-- The tables of the history, or those with one more command that would be accepted.
abbrev pub HoldsUpToOneMore : Kept → Trees → Type 0
HoldsUpToOneMore L trees =
    HoldsAt (ledger_tables L.greatest L.history) trees
    ⊎ ((s : Stamped) × IsAcceptable L s
    × HoldsAt (ledger_tables L.greatest (accept L.history s)) trees)

-- The store represents the history, and a crash leaves its tables, or those with one more command. Its connection may
-- be shut.
pub record IsWatched {S D : Type 0} (g : Ghosts S) (StandsFor : D → Basis → Type 0)
    (store : LineStore S D) (L : Kept) : Type 0 where
  pub stands : Stands g StandsFor store L
  pub crash : HasCleanDisk (state_of g store) → (trees : Trees) → (state_of g store).may_leave trees
      → HoldsUpToOneMore L trees

-- A ledger with the desk's own tables.
abbrev pub own_kept : Ledger → Kept
own_kept G = record { greatest = G.greatest; history = G.history; own = true }

-- No report is found.
abbrev pub no_reports : Reports
no_reports asked H = None

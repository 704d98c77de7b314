-- A file that was opened.
use Rattle.std.specs.Prelude.{Bool, ℕ, List, [], ◌∷◌, None, Some, true, false}
use Rattle.sqlite_disk.specs.declared.Disk as disk
use Rattle.sqlite_disk.specs.declared.Files.{Files}
use Rattle.sqlite_store.specs.declared.store.FileStore.{FileStore}
use Rattle.sqlite_trees.specs.Tree.{Trees}
use Rattle.sqlite_wal.specs.Recovery.{Image}
use Rattle.sqlite.specs.Files.{image_of, over_files}
use Rattle.sqlite.specs.State.{HasCleanDisk}
use Rattle.desk_types.specs.History.{History}
use Rattle.feeder_state.specs.declared.desk.StateDesk.{StateDesk}
use Rattle.feeder_state.specs.contracts.desk.StateDeskDesk.TheImpl.{ghosts as state}
use Rattle.line_schema.specs.declared.store.LineStore.{LineStore}
use Rattle.line_schema.specs.Stands.{Stands, state_of}
use Rattle.line_replay.specs.Rows.{ledger_tables}
use Rattle.line_tables.specs.Rows.{HoldsAt}
use Rattle.desk_file.specs.Files.{Begins, HasOursFirst}
use Rattle.desk_file.specs.Refused.{RefusesRun}
use Rattle.desk_file.specs.Unread.{IsUnread}
use Rattle.chain_files.specs.declared.kept.NoDesk.{NoDesk}
use Rattle.chain_files.specs.declared.kept.NoDesk.TheVariants.{Unread, Refused}

-- The store is that of a history, whose tables the file held. A crash leaves only these.
abbrev pub OpensDesk : {D : Type 0} {g : disk.Ghosts D} → Image
    → LineStore (FileStore D g) StateDesk → Type 0
OpensDesk image store = HasCleanDisk (state_of over_files store) → HasOursFirst image
    → (greatest : ℕ) × (H : History) × Begins image None greatest H
    × Stands over_files state.Stands store
    (record { greatest = greatest; history = H; own = true })
    × ((trees : Trees) → (state_of over_files store).may_leave trees
    → HoldsAt (ledger_tables greatest H) trees)

-- Files that were opened hold no desk, or can't be read.
abbrev pub HoldNoDesk : {D : Type 0} {g : disk.Ghosts D} → Files D → NoDesk D g → Type 0
HoldNoDesk {g = g} first (Unread last) = IsUnread g first last
HoldNoDesk {g = g} first (Refused fault file) =
    RefusesRun (image_of g first) None (record { fault = fault; file = Some file; unread = None })

-- The path of a file, if it was opened.
abbrev pub if_opened : Bool → List ℕ → List (List ℕ)
if_opened true path = path ∷ []
if_opened false path = []

-- The effect of a run on the files that it closed.
use Rattle.std.specs.Prelude.{◌≡◌, ◌≢◌, ◌⊎◌, ⊤, ℕ, Bool, true, false, Option, None, IsSomeAnd, MatchOption, length}
use Rattle.sqlite_disk.specs.declared.Disk as disk
use Rattle.sqlite_disk.specs.declared.Files.{Files}
use Rattle.sqlite_disk.specs.declared.start.Start as start
use Rattle.sqlite_wal.specs.Files.{image_at}
use Rattle.sqlite_wal.specs.Reads.{AreClean}
use Rattle.sqlite_wal.specs.Recovery.{Image}
use Rattle.sqlite_store.specs.declared.store.FileStore.{FileStore}
use Rattle.sqlite_trees.specs.Tree.{Trees}
use Rattle.sqlite.specs.Closing.{HoldsAlone}
use Rattle.sqlite.specs.Effect.{Database}
use Rattle.sqlite.specs.Files.{file_state}
use Rattle.sqlite.specs.Held.{Held}
use Rattle.sqlite.specs.State.{State}
use Rattle.desk_types.specs.declared.rules.Rules.TheVariants.{One, Two}
use Rattle.desk_types.specs.History.{History}
use Rattle.desk_types.specs.Judged.{IsLawful}
use Rattle.desk_laws.specs.Consistent.{IsConsistent}
use Rattle.desk_answers.specs.Ledger.{Ledger}
use Rattle.feeder_state.specs.declared.desk.StateDesk.{StateDesk}
use Rattle.feeder_state.specs.contracts.desk.StateDeskDesk.TheImpl.{ghosts as state}
use Rattle.line_tables.specs.Calls.{LeavesMigrated}
use Rattle.line_tables.specs.Rows.{Tables, HoldsAt}
use Rattle.line_replay.specs.Rows.{ledger_tables}
use Rattle.line_schema.specs.declared.fault.OpenFault.{OpenFault}
use Rattle.line_schema.specs.declared.fault.OpenFault.TheVariants.{NotADesk, NotBlank, Unavailable}
use Rattle.line_schema.specs.declared.store.LineStore.{LineStore}
use Rattle.line_schema.specs.Stands.{HasFailed, conn_of}
use Rattle.desk_file.specs.Files.{Begins, Closes, Copies, HasOursFirst, IsFoundIn, IsLeft, IsOfOne, IsWhole, KeepsTables, Leaves, MayRead, ReadsAs}
use Rattle.desk_file.specs.Opened.{is_open_still}
use Rattle.desk_file.specs.Refused.{IsFaultFor, IsFaultIn, LeavesMade, idle_state}
use Rattle.desk_file.specs.Unread.{IsUnreadAt}
use Rattle.desk_commands.specs.declared.left.ToClose.{ToClose}
use Rattle.desk_commands.specs.declared.left.ToClose.TheVariants.{Nothing, Desk, Migrated, Refused}

-- ---- how files are closed

-- The files were closed completely, or a close failed and left them.
pub data Close : Type 0 where
  whole : Close
  failed : Close

-- The connection was closed in this way.
abbrev pub ClosesConn : {D : Type 0} {g : disk.Ghosts D} → Close → Held (FileStore D g) → Files D
    → Type 0
ClosesConn whole conn files = KeepsTables conn files × Copies conn files
ClosesConn failed conn files = Leaves conn files

-- A desk was closed in this way.
abbrev pub ClosesDesk : {D : Type 0} {g : disk.Ghosts D} → Close
    → LineStore (FileStore D g) StateDesk → Files D → Type 0
ClosesDesk whole desk files =
    Closes state.Stands desk files × Copies (conn_of desk) files
ClosesDesk failed desk files = Leaves (conn_of desk) files

-- So were the files that a command left, if it opened any.
abbrev pub ClosesLeft : {D : Type 0} {g : disk.Ghosts D} → Close → ToClose D g → Option (Files D)
    → Type 0
ClosesLeft how Nothing files = files ≡ None
ClosesLeft how (Desk desk) files = IsSomeAnd files (ClosesDesk how desk)
ClosesLeft how (Migrated conn) files = IsSomeAnd files (ClosesConn how conn)
ClosesLeft how (Refused r) files =
    MatchOption r.file (files ≡ r.unread) (λ conn. IsSomeAnd files (ClosesConn how conn))

-- A command left a file open.
abbrev pub is_left_open : {D : Type 0} {g : disk.Ghosts D} → ToClose D g → Bool
is_left_open Nothing = false
is_left_open (Desk desk) = true
is_left_open (Migrated conn) = true
is_left_open (Refused r) = is_open_still r

-- ---- contents of the files

-- The files hold these tables, now and after a crash: without a log if they were closed completely.
abbrev pub HoldsTables : {D : Type 0} → Close → disk.Ghosts D → Files D → Tables → Type 0
HoldsTables whole g files tables = (image : Image) → MayRead g files image → IsWhole tables image
HoldsTables failed g files tables = (image : Image) → MayRead g files image
    → ∥ ((trees : Trees) × HoldsAt tables trees × ReadsAs trees image) ∥₁

-- A failure of the disk had shut the connection before its close failed. The files still hold what a crash could have
-- left then.
pub record WasShut {D : Type 0} {g : disk.Ghosts D} (conn : Held (FileStore D g))
    (files : Files D) : Type 0 where
  pub shut : (file_state conn).is_open ≡ false
  pub failed : HasFailed (file_state conn)
  pub left : IsLeft conn files

-- The files of a desk hold these tables, unless a failure of the disk had shut its connection before a close failed.
abbrev pub HoldsDesk : {D : Type 0} → Close → disk.Ghosts D → Files D → Tables → Type 0
HoldsDesk whole g files tables = HoldsTables whole g files tables
HoldsDesk {D = D} failed g files tables = HoldsTables failed g files tables
    ⊎ ((conn : Held (FileStore D g)) × WasShut conn files)

-- They hold the database that an open of the first files finds. If a close failed, they may instead hold what the run
-- was about to commit.
abbrev pub HoldsFound : {D : Type 0} → Close → disk.Ghosts D → Files D → Image
    → (State → Trees → Type 0) → Type 0
HoldsFound whole g files first Commits =
    (db : Database) × IsFoundIn first db
    × ((image : Image) → MayRead g files image → HoldsAlone image db.trees)
HoldsFound failed g files first Commits =
    (db : Database) × IsFoundIn first db
    × ((image : Image) → MayRead g files image
    → ∥ ((trees : Trees) × ((trees ≡ db.trees) ⊎ Commits (idle_state db) trees)
    × ReadsAs trees image) ∥₁)

-- ---- effect of the run

-- Honest files that held only the desk's tables led the run from their history to one that the fact gives, and hold the
-- tables of that one.
abbrev pub RunsTo : {T D : Type 0} → Close → start.Ghosts T → disk.Ghosts D → Option (Files D)
    → Option ℕ → (Ledger → History → Type 0) → Type 0
RunsTo how first g files make Fact =
    IsSomeAnd files (λ f. AreClean g f.log f.db → HasOursFirst (image_at first)
    → (greatest : ℕ) × (H : History) × Begins (image_at first) make greatest H
    × IsLawful Two greatest H
    × (H' : History) × IsLawful Two greatest H' × IsConsistent H'
    × HoldsDesk how g f (ledger_tables greatest H')
    × Fact (record { rules = Two; greatest = greatest; history = H }) H')

-- An audit found this number of commands.
abbrev pub AuditsTo : {T D : Type 0} → Close → start.Ghosts T → disk.Ghosts D → Option (Files D) → ℕ
    → Type 0
AuditsTo how first g files count =
    RunsTo how first g files None (λ G H. (H ≡ G.history) × (count ≡ length H))

-- Files that held the tables of a history by version 1 hold them by version 2.
abbrev pub MigratesTo : {T D : Type 0} → Close → start.Ghosts T → disk.Ghosts D → Option (Files D)
    → Type 0
MigratesTo how first g files =
    IsSomeAnd files (λ f. AreClean g f.log f.db → HasOursFirst (image_at first)
    → (greatest : ℕ) × (H : History) × IsOfOne (image_at first) greatest H
    × HoldsTables how g f (ledger_tables greatest H))

-- The files were refused for this fault. If they never lied, the fault is in their contents, which are unchanged.
abbrev pub IsRefusedTo : {T D : Type 0} → Close → start.Ghosts T → disk.Ghosts D → Option (Files D)
    → (OpenFault → Type 0) → (State → Trees → Type 0) → Type 0 → OpenFault → Type 0
IsRefusedTo how first g files StandsIn Commits MakesNone fault =
    MatchOption files ((fault ≡ Unavailable) ⊎ ((fault ≡ NotADesk) × MakesNone))
    (λ f. AreClean g f.log f.db → StandsIn fault × HoldsFound how g f (image_at first) Commits)
    × (MakesNone → fault ≢ NotBlank)

-- The same for a run that may make a desk up to this number, or for a migration.
abbrev pub RefusesTo : {T D : Type 0} → Close → start.Ghosts T → disk.Ghosts D → Option (Files D)
    → Option ℕ → OpenFault → Type 0
RefusesTo how first g files make =
    IsRefusedTo how first g files (IsFaultFor (image_at first) make) (LeavesMade make)
    (make ≡ None)

abbrev pub RefusesToMigrateTo : {T D : Type 0} → Close → start.Ghosts T → disk.Ghosts D
    → Option (Files D) → OpenFault → Type 0
RefusesToMigrateTo how first g files =
    IsRefusedTo how first g files (IsFaultIn (image_at first) One) LeavesMigrated ⊤

-- No database could be opened in the files, and they weren't written over.
abbrev pub IsUnreadTo : {T D : Type 0} → start.Ghosts T → disk.Ghosts D → Option (Files D)
    → OpenFault → Type 0
IsUnreadTo first g files fault =
    (fault ≡ Unavailable) × IsSomeAnd files (IsUnreadAt g (image_at first))

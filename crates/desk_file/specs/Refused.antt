-- Why files are refused, and their contents afterwards.
use Rattle.std.specs.Prelude.{◌≡◌, ◌≢◌, ◌⊎◌, ⊤, ℕ, pos, true, false, [], Option, None, IfSome, IsSome, IsSomeAnd, IsTrue}
use Rattle.std.specs.List.{list_any}
use Rattle.sqlite_disk.specs.declared.Disk as disk
use Rattle.sqlite_wal.specs.Recovery.{Image}
use Rattle.sqlite_store.specs.declared.store.FileStore.{FileStore}
use Rattle.sqlite_trees.specs.Tree.{Trees}
use Rattle.sqlite.specs.Effect.{Database}
use Rattle.sqlite.specs.Files.{file_state, IsOpened}
use Rattle.sqlite.specs.Held.{Held}
use Rattle.sqlite.specs.State.{State, HasCleanDisk, KeepsCommit, Survives}
use Rattle.desk_file.specs.Found.{FindsAs}
use Rattle.desk_types.specs.declared.rules.Rules.{Rules}
use Rattle.desk_types.specs.declared.rules.Rules.TheVariants.{One, Two}
use Rattle.line_tables.specs.Calls.{LeavesBlank, LeavesMigrated}
use Rattle.line_tables.specs.Names.{has_name}
use Rattle.line_schema.specs.declared.fault.OpenFault.{OpenFault}
use Rattle.line_schema.specs.declared.fault.OpenFault.TheVariants.{NotADesk, NotBlank, Unavailable}
use Rattle.line_schema.specs.Opening.{IsFaultBy, IsToldBy}
use Rattle.desk_file.specs.declared.refusal.RefusedFile.{RefusedFile}
use Rattle.desk_file.specs.Files.{IsFoundIn}
use Rattle.desk_file.specs.Unread.{IsUnreadAt}

-- ---- the fault

-- An open connection over this database, outside of a transaction.
abbrev pub idle_state : Database → State
idle_state db = record {
  now = db;
  committed = db;
  in_transaction = false;
  marks = [];
  is_open = true;
  is_clean = true;
  faults = 0;
  blamed = None;
  changes = 0;
  last_rowid = pos 0;
  step_limit = None;
  may_leave = λ trees. trees ≡ db.trees;
  IsShielded = ⊤;
}

-- The fault is in a database that an open of the files finds, as a desk of the version of these rules.
abbrev pub IsFaultIn : Image → Rules → OpenFault → Type 0
IsFaultIn image rules fault = (db : Database) × IsFoundIn image db
    × IsFaultBy rules (idle_state db) fault × IsToldBy rules (idle_state db) fault

-- The files hold a table with one of our names.
abbrev pub HasOurName : Image → Type 0
HasOurName image = (db : Database) × IsFoundIn image db
    × (list_any has_name db.schema.tables ≡ true)

-- Why a run refuses the files: the fault of a desk of version 2, or a table with one of our names in files in which to
-- make a desk.
abbrev pub IsFaultFor : Image → Option ℕ → OpenFault → Type 0
IsFaultFor image make fault = IsFaultIn image Two fault
    ⊎ (IsSome make × (fault ≡ NotBlank) × HasOurName image)

-- ---- the files

-- An open of the files made the connection `first`, which became `last`. Nothing was committed, and a crash leaves what
-- it left of `first`, or this.
pub record IsUnchangedSince {D : Type 0} {g : disk.Ghosts D} (image : Image)
    (Leaves : State → Trees → Type 0) (first last : Held (FileStore D g)) : Type 0 where
  pub opened : HasCleanDisk (file_state first) → IsOpened first × FindsAs image (file_state first)
  pub kept : HasCleanDisk (file_state last) → KeepsCommit (file_state first) (file_state last)
  pub survives : Survives (file_state first) (file_state last) (Leaves (file_state first))

-- Nothing was found in the files: they were not opened, or no database could be opened in them.
abbrev pub IsUnfound : {D : Type 0} {g : disk.Ghosts D} → Image → RefusedFile D g → Type 0
IsUnfound {g = g} image r =
    (r.fault ≡ Unavailable) × (r.file ≡ None) × IfSome r.unread (IsUnreadAt g image)

-- The files were refused. If the disk did not lie, the fault is in their contents, which are those that the connection
-- has committed. Without a connection it is Unavailable, or NotADesk if none may be made, and files that were opened
-- weren't written over.
pub record IsRefused {D : Type 0} {g : disk.Ghosts D} (image : Image)
    (StandsIn : OpenFault → Type 0) (Leaves : State → Trees → Type 0) (MakesNone : Type 0)
    (r : RefusedFile D g) : Type 0 where
  pub unopened : r.file ≡ None → (r.fault ≡ Unavailable) ⊎ ((r.fault ≡ NotADesk) × MakesNone)
  pub fault : IfSome r.file (λ conn. HasCleanDisk (file_state conn) → StandsIn r.fault)
  pub found : IfSome r.file (λ conn. HasCleanDisk (file_state conn)
      → IsTrue (file_state conn).is_open → IsFoundIn image (file_state conn).committed)
  pub since : IfSome r.file
      (λ conn. (first : Held (FileStore D g)) × IsUnchangedSince image Leaves first conn)
  pub unread : IfSome r.unread
      (λ f. (r.fault ≡ Unavailable) × (r.file ≡ None) × IsUnreadAt g image f)
  pub never : MakesNone → r.fault ≢ NotBlank

-- The tables that a crash may also leave of a run that may make a desk: those of an empty history.
abbrev pub LeavesMade : Option ℕ → State → Trees → Type 0
LeavesMade make s trees = IsSomeAnd make (λ greatest. LeavesBlank greatest s trees)

-- A run that may make a desk up to this number refused them.
abbrev pub RefusesRun : {D : Type 0} {g : disk.Ghosts D}
    → Image → Option ℕ → RefusedFile D g → Type 0
RefusesRun image make = IsRefused image (IsFaultFor image make) (LeavesMade make) (make ≡ None)

-- A migration refused them, by rules One. A crash may still leave the desk by version 2.
abbrev pub RefusesMigration : {D : Type 0} {g : disk.Ghosts D} → Image → RefusedFile D g → Type 0
RefusesMigration image = IsRefused image (IsFaultIn image One) LeavesMigrated ⊤

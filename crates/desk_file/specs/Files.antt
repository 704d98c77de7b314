-- The initial history of a run, by the contents of its files.
use Rattle.std.specs.Prelude.{◌≡◌, ◌⊎◌, ℕ, IsTrue, List, [], Option, Some}
use Rattle.sqlite_disk.specs.declared.Disk as disk
use Rattle.sqlite_disk.specs.declared.Files.{Files}
use Rattle.sqlite_catalog.specs.Listing.{IsSound}
use Rattle.sqlite_pages.specs.PageMap.{PageMap}
use Rattle.sqlite_pool.specs.Stored.{Adopts, stored_size}
use Rattle.sqlite_schema.specs.declared.schema.Schema.{Schema}
use Rattle.sqlite_store.specs.Db.{IsFile}
use Rattle.sqlite_store.specs.Listing.{file_trees}
use Rattle.sqlite_store.specs.declared.catalog.Wanted.{Wanted}
use Rattle.sqlite_wal.specs.Files.{outcomes}
use Rattle.sqlite_wal.specs.PageSize.{IsPageSize}
use Rattle.sqlite_wal.specs.Reads.{AreClean}
use Rattle.sqlite_wal.specs.Recovery.{Image}
use Rattle.sqlite_store.specs.declared.store.FileStore.{FileStore}
use Rattle.sqlite_trees.specs.Tree.{Trees}
use Rattle.sqlite.specs.Effect.{Database, IsDatabase}
use Rattle.sqlite.specs.Closing.{HoldsAlone, IsCopied}
use Rattle.sqlite.specs.Files.{HoldsDatabase, file_state, image_of, over_files}
use Rattle.sqlite.specs.Held.{Held}
use Rattle.sqlite.specs.State.{HasCleanDisk, IsLive}
use Rattle.desk_file.specs.Found.{AreReadIn}
use Rattle.desk_types.specs.declared.rules.Rules.TheVariants.{One, Two}
use Rattle.desk_types.specs.History.{History, Basis}
use Rattle.desk_types.specs.Judged.{IsLawful}
use Rattle.line_tables.specs.Line.{IsOurs, no_schema}
use Rattle.line_tables.specs.Rows.{Tables, Holds, HoldsAt, HoldsBy}
use Rattle.line_replay.specs.Rows.{ledger_tables}
use Rattle.line_schema.specs.declared.store.LineStore.{LineStore}
use Rattle.line_schema.specs.Stands.{Kept, Stands}

-- An open of the files finds this database, whose trees list its schema: that of the files, or an empty one if they
-- hold nothing.
pub record IsFoundIn (image : Image) (db : Database) : Type 0 where
  pub sound : IsDatabase db
  pub reads : AreReadIn image db.trees
  pub same : (trees : Trees) → HoldsDatabase image trees → db.trees ≡ trees

-- Any open of the files finds no table at all, or the tables of a line. Those of version 1 are alone. Those of version
-- 2 come first, and no other table refers to them.
abbrev pub HasOursFirst : Image → Type 0
HasOursFirst image = (db : Database) → IsFoundIn image db
    → IsOurs db.schema ⊎ (db.schema ≡ no_schema)

-- The files hold these tables, by version 2.
abbrev pub HasTables : Image → Tables → Type 0
HasTables image tables = (db : Database) × IsFoundIn image db × Holds db tables

-- The files hold no table.
abbrev pub HasNoTable : Image → Type 0
HasNoTable image = (db : Database) × IsFoundIn image db × (db.schema ≡ no_schema)

-- Any open of the files finds no table.
abbrev pub FindsNoTable : Image → Type 0
FindsNoTable image = (db : Database) → IsFoundIn image db → db.schema ≡ no_schema

-- A run on the files begins with the greatest number and the history whose tables they hold by version 2. If they hold
-- no table and a desk may be made, it begins with an empty history and the requested greatest number.
abbrev pub Begins : Image → Option ℕ → ℕ → History → Type 0
Begins image make greatest H = HasTables image (ledger_tables greatest H)
    ⊎ (HasNoTable image × (make ≡ Some greatest) × (H ≡ []))

-- The files hold the tables of this history by version 1, and it is lawful by the rules of both versions.
pub record IsOfOne (image : Image) (greatest : ℕ) (H : History) : Type 0 where
  pub tables : (db : Database) × IsFoundIn image db × HoldsBy One db (ledger_tables greatest H)
  pub by_one : IsLawful One greatest H
  pub by_two : IsLawful Two greatest H

-- The files held the tables of a history by version 1. The connection holds its tables by version 2, and a crash leaves
-- only these.
abbrev pub MigratedFrom : {D : Type 0} {g : disk.Ghosts D} → Image → Held (FileStore D g) → Type 0
MigratedFrom image conn = (greatest : ℕ) × (H : History) × IsOfOne image greatest H
    × Holds (file_state conn).committed (ledger_tables greatest H)
    × ((trees : Trees) → (file_state conn).may_leave trees
    → HoldsAt (ledger_tables greatest H) trees)

-- The two files hold these tables, and so does the database file without its log.
abbrev pub IsWhole : Tables → Image → Type 0
IsWhole tables image = (trees : Trees) × HoldsAt tables trees × HoldsAlone image trees

-- The connection was closed, and its last commit is in these files if the disk never lied.
abbrev pub Copies : {D : Type 0} {g : disk.Ghosts D} → Held (FileStore D g) → Files D → Type 0
Copies {g = g} conn files = AreClean g files.log files.db → IsCopied conn files

-- The current contents of the files, or those that a crash leaves.
abbrev pub MayRead : {D : Type 0} → disk.Ghosts D → Files D → Image → Type 0
MayRead g files image = (image ≡ image_of g files) ⊎ outcomes g files.log files.db image

-- The files recover to a sound database with these trees. This is `HoldsDatabase` without the numbers that the list of
-- tables gives its trees.
pub record ReadsAs (trees : Trees) (image : Image) : Type 0 where
  pub size : ℕ
  pub allowed : IsPageSize (stored_size size)
  pub pages : PageMap
  pub wanted : List Wanted
  pub schema : Schema
  pub found : Adopts size image pages
  pub file : IsFile size wanted pages
  pub reads : trees ≡ file_trees size wanted pages
  pub sound : IsSound schema trees

-- A crash could have left these trees of the connection: if it was open, those of its last commit, with other people's
-- tables.
pub record MayHold {D : Type 0} {g : disk.Ghosts D} (conn : Held (FileStore D g))
    (trees : Trees) : Type 0 where
  pub may : (file_state conn).may_leave trees
  pub last : IsTrue (file_state conn).is_open → trees ≡ (file_state conn).committed.trees

-- Files of an honest disk, after a close that failed. Now and after a crash they hold what a crash could have left
-- before.
pub record IsLeft {D : Type 0} {g : disk.Ghosts D} (conn : Held (FileStore D g))
    (files : Files D) : Type 0 where
  pub was_clean : HasCleanDisk (file_state conn)
  pub was_live : IsLive (file_state conn)
  pub holds : (image : Image) → MayRead g files image
      → ∥ ((trees : Trees) × MayHold conn trees × ReadsAs trees image) ∥₁

-- The connection could not be closed, and left these files.
abbrev pub Leaves : {D : Type 0} {g : disk.Ghosts D} → Held (FileStore D g) → Files D → Type 0
Leaves {g = g} conn files = AreClean g files.log files.db → IsLeft conn files

-- The files of a connection hold whatever tables it held, now and after any crash, if it was sound and open and the
-- disk never lied.
abbrev pub KeepsTables : {D : Type 0} {g : disk.Ghosts D} → Held (FileStore D g) → Files D → Type 0
KeepsTables {g = g} conn files = (tables : Tables) → (HasCleanDisk (file_state conn)
    → IsTrue (file_state conn).is_open → Holds (file_state conn).committed tables)
    → AreClean g files.log files.db → (image : Image) → MayRead g files image
    → IsWhole tables image

-- The files of a desk with its own tables hold those of its history, now and after any crash, if the disk never lied.
abbrev pub Closes : {D E : Type 0} {g : disk.Ghosts D} → (E → Basis → Type 0)
    → LineStore (FileStore D g) E → Files D → Type 0
Closes {g = g} StandsFor desk files = (L : Kept)
    → Stands over_files StandsFor desk L → IsTrue L.own → AreClean g files.log files.db
    → (image : Image) → MayRead g files image → IsWhole (ledger_tables L.greatest L.history) image

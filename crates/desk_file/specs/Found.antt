-- The result of opening two files, by their contents.
use Rattle.std.specs.Prelude.{◌≡◌, ◌⊎◌}
use Rattle.sqlite_disk.specs.declared.Disk.{Ghosts}
use Rattle.sqlite_disk.specs.declared.Files.{Files}
use Rattle.sqlite_wal.specs.Reads.{AreClean}
use Rattle.sqlite_wal.specs.Recovery.{Image}
use Rattle.sqlite_pool.specs.Opening.{IsBlankFile}
use Rattle.sqlite_store.specs.declared.store.FileStore.{FileStore}
use Rattle.sqlite_store.specs.FileStore.{view}
use Rattle.sqlite_trees.specs.Tree.{Trees}
use Rattle.sqlite.specs.Files.{AreFoundIn, HoldsDatabase, IsEmpty}
use Rattle.sqlite.specs.State.{State}
use Rattle.sqlite.specs.Steps.{IsFresh}
use Rattle.desk_types.specs.declared.limits.TheConstants.{PAGE_SIZE}

-- No database has been made in the files yet, or its creation with pages of this size was interrupted.
abbrev pub IsNew : Image → Type 0
IsNew = IsBlankFile PAGE_SIZE

-- The trees are those of the files. If no database has been made, they are empty.
abbrev pub AreReadIn : Image → Trees → Type 0
AreReadIn image trees = AreFoundIn image trees ⊎ (IsNew image × IsEmpty trees)

-- The committed contents are those of the files.
pub record FindsAs (image : Image) (s : State) : Type 0 where
  pub holds : (trees : Trees) → HoldsDatabase image trees → s.committed.trees ≡ trees
  pub reads : AreReadIn image s.committed.trees

-- An empty database was made in files that did not lie.
pub record IsMadeOf {D : Type 0} {g : Ghosts D} (files : Files D)
    (store : FileStore D g) : Type 0 where
  pub honest : AreClean g files.log files.db
  pub fresh : IsFresh (view store)
  pub empty : IsEmpty (view store).trees

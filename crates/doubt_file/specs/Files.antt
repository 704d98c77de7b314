-- The pieces in doubt by both lists of files, which are closed again.
use Rattle.std.specs.Prelude.{ℕ, List}
use Rattle.sqlite_disk.specs.declared.Disk as disk
use Rattle.sqlite_disk.specs.declared.Files.{Files}
use Rattle.sqlite_wal.specs.Reads.{AreClean}
use Rattle.sqlite_wal.specs.Recovery.{Image}
use Rattle.sqlite.specs.Effect.{Database}
use Rattle.desk_types.specs.History.{History}
use Rattle.desk_file.specs.Files.{IsFoundIn}
use Rattle.line_book.specs.declared.row.BookRow.{BookRow}
use Rattle.line_book.specs.Book.{Book}
use Rattle.line_doubt.specs.declared.reason.Doubt.{Doubt}
use Rattle.line_doubt.specs.Reasons.{AreExplained}
use Rattle.line_file.specs.Files.{HasListsFirst, HoldsLists, IsNamedIn}

-- The pieces are those in doubt by the lists that the files held when they were opened.
pub record AreDoubtsIn (within : ℕ) (image : Image) (found : List Doubt) : Type 0 where
  pub db : Database
  pub opened : IsFoundIn image db
  pub greatest : ℕ
  pub history : History
  pub rows : List BookRow
  pub notes : Book
  pub lists : HoldsLists db greatest history rows notes
  pub explained : AreExplained history notes within found

-- If no disk lied until the files were closed, no other table is in the book's place; and the pieces are those in doubt
-- by the lists.
abbrev pub TellsDoubts : {F : Type 0} → ℕ → disk.Ghosts F → Image → Files F → List Doubt → Type 0
TellsDoubts within g image f found = AreClean g f.log f.db
    → IsNamedIn image × (HasListsFirst image → AreDoubtsIn within image found)

-- Files that were opened, but in which no database could be opened.
use Rattle.std.specs.Prelude.{◌≡◌, ◌⊎◌}
use Rattle.sqlite_disk.specs.declared.Disk as disk
use Rattle.sqlite_disk.specs.declared.Files.{Files}
use Rattle.sqlite_wal.specs.Files.{outcomes}
use Rattle.sqlite_wal.specs.Recovery.{Image}
use Rattle.sqlite_wal.specs.Reads.{AreClean}
use Rattle.sqlite.specs.declared.file.Leftover.{Leftover}
use Rattle.sqlite.specs.Closing.{files_left}
use Rattle.sqlite.specs.Files.{LeavesFiles, image_of}
use Rattle.desk_file.specs.Found.{IsNew}

-- Files with these contents were opened, and nothing was done to them since: a crash leaves what they hold.
pub record IsJustOpened {D : Type 0} (g : disk.Ghosts D) (image : Image)
    (files : Files D) : Type 0 where
  pub held : image_of g files ≡ image
  pub settled : (left : Image) → outcomes g files.log files.db left → left ≡ image

-- No database could be opened in the first files, which became the last. If the disk never lied, a crash leaves what it
-- left of the first, or the same pages by another log (`LeavesFiles`): they weren't written over. Only files in which no
-- database had been made may have been written, to make one.
pub record IsUnread {D : Type 0} (g : disk.Ghosts D) (first last : Files D) : Type 0 where
  pub rest : Leftover D g
  pub files : (last.log, last.db) ≡ files_left rest
  pub unharmed : AreClean g last.log last.db → IsNew (image_of g first) ⊎ LeavesFiles first rest

-- The same of files with these contents, to which nothing had been done.
abbrev pub IsUnreadAt : {D : Type 0} → disk.Ghosts D → Image → Files D → Type 0
IsUnreadAt {D = D} g image last =
    (first : Files D) × IsJustOpened g image first × IsUnread g first last

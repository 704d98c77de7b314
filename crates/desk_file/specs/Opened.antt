-- Whether a run opened its file, and what is open of it afterwards.
use Rattle.std.specs.Prelude.{Bool, ◌||◌, is_some}
use Rattle.sqlite_disk.specs.declared.Disk as disk
use Rattle.desk_file.specs.declared.path.FileOpener.{FileOpener}
use Rattle.desk_file.specs.declared.refusal.RefusedFile.{RefusedFile}

abbrev pub has_opened : {T : Type 0} → FileOpener T → Bool
has_opened opener = opener.opened

-- Something of a refused file is open.
abbrev pub is_open_still : {D : Type 0} {g : disk.Ghosts D} → RefusedFile D g → Bool
is_open_still r = is_some r.file || is_some r.unread

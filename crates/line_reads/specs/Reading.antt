-- The lists of the file at a path.
use Rattle.std.specs.Prelude.{◌≡◌, ◌⊎◌, ⊤, ℕ, Bool, Option, None, Some, IfSome, IsSomeAnd, length}
use Rattle.sqlite_disk.specs.declared.Disk as disk
use Rattle.sqlite_disk.specs.declared.Files.{Files}
use Rattle.sqlite_wal.specs.Recovery.{Image}
use Rattle.feeder_state.specs.declared.desk.StateDesk.{StateDesk}
use Rattle.feeder_state.specs.State.{Represents}
use Rattle.line_schema.specs.declared.fault.OpenFault.TheVariants.{NotADesk, Unavailable}
use Rattle.desk_file.specs.Unread.{IsJustOpened}
use Rattle.line_file.specs.declared.fault.ListFault.{ListFault}
use Rattle.line_file.specs.declared.fault.ListFault.TheVariants.{History as AtHistory}
use Rattle.line_file.specs.declared.store.Line.{Line}
use Rattle.line_file.specs.Files.{FindsFault, FindsLine, IsKept}

-- A file was opened and closed, and the line is that of its lists.
abbrev pub HasLine : {F : Type 0} → Bool → disk.Ghosts F → Image → Option (Files F)
    → Line StateDesk → Type 0
HasLine with_rows g image files line =
    IsSomeAnd files (λ f. FindsLine Represents with_rows g image f line)

-- The file is missing, empty or can't be opened. Or it was opened and closed, and has this fault.
abbrev pub HasFault : {F : Type 0} → disk.Ghosts F → Image → Option (Files F) → ListFault → Type 0
HasFault g image None fault = (fault ≡ AtHistory Unavailable) ⊎ (fault ≡ AtHistory NotADesk)
HasFault g image (Some f) fault = FindsFault g image f fault

-- A file that was opened holds what it held.
abbrev pub KeepsFile : {F : Type 0} → disk.Ghosts F → Image → Option (Files F) → Type 0
KeepsFile {F = F} g image files =
    IfSome files (λ f. (first : Files F) × IsJustOpened g image first × IsKept g first f)

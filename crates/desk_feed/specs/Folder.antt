-- Reading the bytes of a file.
use Rattle.std.specs.Prelude.{◌≡◌, ℕ, suc, List, take, Option, IfSome}
use Rattle.std.specs.declared.io.ErrorKind.{ErrorKind}
use Rattle.std.specs.declared.io.ErrorKind.TheVariants.{OutOfMemory}
use Rattle.desk_feed.specs.declared.reading.UnreadFile.{UnreadFile}
use Rattle.desk_feed.specs.declared.reading.UnreadFile.TheVariants.{Failed, NoMemory}
use Rattle.desk_types.specs.declared.limits.TheConstants.{LONGEST_INPUT}

-- The file's first 1,048,577 bytes, if known: one more than the limit.
abbrev pub IsRead : Option (List ℕ) → List ℕ → Type 0
IsRead file bytes = IfSome file (λ all. bytes ≡ take (suc LONGEST_INPUT) all)

-- Why a file can't be read: out of memory, or opening or reading failed.
abbrev pub unread_by : ErrorKind → UnreadFile
unread_by OutOfMemory = NoMemory
unread_by kind = Failed

-- From which file each desk of a chain was begun.
use Rattle.std.specs.Prelude.{◌≡◌, ◌<◌, ◌≤◌, ◌↔◌, ⊤, ℕ, All, Bool, false, IsTrue, List, [], ◌∷◌, Option, Some, None, get_or, length, string_bytes, take}
use Rattle.sqlite_disk.specs.declared.Disk as disk
use Rattle.sqlite_disk.specs.declared.Files.{Files}
use Rattle.sqlite_wal.specs.Files.{outcomes}
use Rattle.sqlite_wal.specs.Reads.{AreClean}
use Rattle.sqlite_wal.specs.Recovery.{Image}
use Rattle.sqlite.specs.Files.{image_of}
use Rattle.sha2.specs.Sha256.{sha256}
use Rattle.hex.specs.Hex.{encode_lower}
use Rattle.desk_laws.specs.Chain.{DeskFile}
use Rattle.chain_stores.specs.Begin.{IsMarkOf}
use Rattle.chain_files.specs.declared.chain.Fault.{Fault}
use Rattle.chain_files.specs.declared.chain.Fault.TheVariants.{BegunFrom}
use Rattle.chain_files.specs.declared.marks.Links.{Links}
use Rattle.chain_files.specs.declared.marks.Wanted.{Wanted}
use Rattle.chain_files.specs.declared.marks.Wanted.TheVariants.{Anything, Nothing, Checksum}
use Rattle.chain_files.specs.Words.{Begins}

-- ---- checksums

-- The checksum of a file's bytes: the hex digits of their SHA-256.
abbrev pub file_checksum : List ℕ → List ℕ
file_checksum bytes = encode_lower (sha256 bytes)

-- A mark names a checksum by its first digits, at least 24.
abbrev pub NamesChecksum : List ℕ → List ℕ → Type 0
NamesChecksum checksum mark = (24 ≤ length mark) × Begins mark checksum

-- A file was only read: it has the same bytes, and a crash leaves nothing else.
pub record OnlyRead {D : Type 0} (g : disk.Ghosts D) (old new : D) : Type 0 where
  pub seen : g.seen new ≡ g.seen old
  pub leaves : (bytes : List ℕ) → g.may_leave new bytes → g.may_leave old bytes
  pub clean : IsTrue (g.is_clean new) → IsTrue (g.is_clean old)

-- So were a database and its log.
pub record OnlyReadFiles {D : Type 0} (g : disk.Ghosts D) (old new : Files D) : Type 0 where
  pub same : image_of g new ≡ image_of g old
  pub leaves : (image : Image) → outcomes g new.log new.db image → outcomes g old.log old.db image
  pub clean : AreClean g new.log new.db → AreClean g old.log old.db

-- ---- the file that another was begun from

-- The mark of a fault names the checksum at this place, and none before it.
abbrev pub Follows : Fault → List (List ℕ) → ℕ → Type 0
Follows (BegunFrom mark) checksums place = (place < length checksums)
    × NamesChecksum (get_or checksums place []) (string_bytes mark)
    × All (λ checksum. ¬ NamesChecksum checksum (string_bytes mark)) (take place checksums)
Follows fault checksums place = ⊥

-- It names none of these checksums. Or the fault has no mark.
abbrev pub FollowsNone : Fault → List (List ℕ) → Type 0
FollowsNone (BegunFrom mark) checksums =
    All (λ checksum. ¬ NamesChecksum checksum (string_bytes mark)) checksums
FollowsNone fault checksums = ⊤

-- ---- links

-- A first UniqueID that names this checksum, or none, is wanted.
abbrev pub IsWanted : Wanted → Option (List ℕ) → Type 0
IsWanted Anything mark = ⊤
IsWanted Nothing mark = mark ≡ None
IsWanted (Checksum checksum) mark =
    (named : List ℕ) × (mark ≡ Some named) × NamesChecksum (string_bytes checksum) named

-- The file after this one may have this mark, or none. Unless marks are left aside, it must name the checksum of this file.
abbrev pub IsNext : {D : Type 0} → Bool → disk.Ghosts D → Files D → Option (List ℕ) → Type 0
IsNext without_marks g f mark = without_marks ≡ false
    → (named : List ℕ) × (mark ≡ Some named) × NamesChecksum (file_checksum (g.seen f.db)) named

abbrev pub WantsNext : {D : Type 0} → Bool → disk.Ghosts D → Files D → Wanted → Type 0
WantsNext without_marks g f wanted =
    (mark : Option (List ℕ)) → IsWanted wanted mark ↔ IsNext without_marks g f mark

-- The file after these, newest first, may have this mark, or none. The first file was begun from no other, unless a chain
-- may begin in the middle.
abbrev pub IsLinked : {D : Type 0} → Links → disk.Ghosts D → List (Files D)
    → Option (List ℕ) → Type 0
IsLinked links g [] mark = links.from_middle ≡ false → mark ≡ None
IsLinked links g (f ∷ closed) mark = IsNext links.without_marks g f mark

-- Each file names what it may, by its first UniqueID.
abbrev pub AreLinked : {D : Type 0} → Links → disk.Ghosts D → List (Files D) → List DeskFile
    → Type 0
AreLinked links g (f ∷ closed) (file ∷ older) =
    ((mark : Option (List ℕ)) × IsMarkOf file.whole mark × IsLinked links g closed mark)
    × AreLinked links g closed older
AreLinked links g _ _ = ⊤

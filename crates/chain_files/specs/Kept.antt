-- What each file that a run closed holds, whatever the exit status.
use Rattle.std.specs.Prelude.{◌≡◌, ◌≤◌, ◌⊎◌, ⊤, ℕ, None, List, [], ◌∷◌, ◌++◌, length, take}
use Rattle.sqlite_disk.specs.declared.Disk as disk
use Rattle.sqlite_disk.specs.declared.Files.{Files}
use Rattle.sqlite_wal.specs.Reads.{AreClean}
use Rattle.sqlite_wal.specs.Recovery.{Image}
use Rattle.desk_types.specs.declared.rules.Rules.TheVariants.{Two}
use Rattle.desk_types.specs.History.{History}
use Rattle.desk_types.specs.Judged.{IsLawful}
use Rattle.desk_laws.specs.Consistent.{IsConsistent}
use Rattle.desk_commands.specs.Closed.{Close, HoldsFound, HoldsTables}
use Rattle.desk_file.specs.Files.{HasOursFirst, HasTables}
use Rattle.desk_file.specs.Refused.{LeavesMade}
use Rattle.desk_file.specs.Unread.{IsUnreadAt}
use Rattle.line_replay.specs.Rows.{ledger_tables}
use Rattle.chain_files.specs.declared.marks.Links.{Links}
use Rattle.chain_files.specs.declared.words.Asked.{Asked}
use Rattle.chain_files.specs.Files.{oldest_first, placed}
use Rattle.chain_files.specs.Words.{AsksOf, AsksToCompare}

-- A file was closed in this way. It holds the same tables as when it was opened: those of a lawful history.
abbrev pub KeepsHistory : {D : Type 0} → Close → disk.Ghosts D → Image → Files D → Type 0
KeepsHistory how g image f = (greatest : ℕ) × (H : History)
    × HasTables image (ledger_tables greatest H) × HoldsTables how g f (ledger_tables greatest H)
    × IsLawful Two greatest H × IsConsistent H

-- The file holds the same as when it was opened, now and after any crash: the tables of a lawful history, or the database
-- in which a fault was found. Its disk must never lie, and it must have held only a desk's tables, or those first. Or no
-- database could be opened in it, and it wasn't written over.
abbrev pub IsKept : {D : Type 0} → disk.Ghosts D → Image → Files D → Type 0
IsKept g image f = (AreClean g f.log f.db → HasOursFirst image
    → (how : Close) × (KeepsHistory how g image f ⊎ HoldsFound how g f image (LeavesMade None)))
    ⊎ IsUnreadAt g image f

-- A file was closed, and holds what it held.
abbrev pub ClosesKept : {D : Type 0} → disk.Ghosts D → Image → List (Files D) → List (Files D)
    → Type 0
ClosesKept {D = D} g image closed closed' =
    (f : Files D) × (closed' ≡ closed ++ f ∷ []) × IsKept g image f

-- The file with this path was opened and closed, and holds what it held. Or none was opened.
abbrev pub AddsKept : {D : Type 0} → disk.Ghosts D → Image → List ℕ → List (List ℕ)
    → List (List ℕ) → List (Files D) → List (Files D) → Type 0
AddsKept g image path opened opened' closed closed' =
    ((opened' ≡ opened ++ path ∷ []) × ClosesKept g image closed closed')
    ⊎ ((opened' ≡ opened) × (closed' ≡ closed))

-- Each of these files holds what it held. The newest comes first.
abbrev pub KeepEach : {D : Type 0} → disk.Ghosts D → (ℕ → Image) → List (Files D) → Type 0
KeepEach g image [] = ⊤
KeepEach g image (f ∷ older) = IsKept g (image (length older)) f × KeepEach g image older

-- Files were opened at the first of these paths, one after the other, and no others. Each was closed, and holds what it
-- held.
pub record AreKept {D : Type 0} (g : disk.Ghosts D) (image : List ℕ → ℕ → Image)
    (paths opened opened' : List (List ℕ)) (closed : List (Files D)) : Type 0 where
  pub inside : length closed ≤ length paths
  pub told : opened' ≡ opened ++ take (length closed) paths
  pub newest_first : List (Files D)
  pub order : closed ≡ oldest_first newest_first
  pub each : KeepEach g (placed image paths) newest_first

-- The words name these files, for a recall or a comparison.
abbrev pub NameFiles : List (List ℕ) → List (List ℕ) → Type 0
NameFiles words paths =
    ((asked : Asked) × (word : List ℕ) × (links : Links) × AsksOf words asked word links paths)
    ⊎ ((old : List ℕ) × (new : List ℕ) × AsksToCompare words old new
    × (paths ≡ old ∷ new ∷ []))

-- The files that were opened are the first ones that the words name, in their order. Each was closed, and holds what it
-- held. Or none was opened.
abbrev pub KeepsNamed : {D : Type 0} → disk.Ghosts D → (List ℕ → ℕ → Image) → List (List ℕ)
    → List (List ℕ) → List (Files D) → List (List ℕ) → Type 0
KeepsNamed g image opened opened' closed words = ((closed ≡ []) × (opened' ≡ opened))
    ⊎ ((paths : List (List ℕ)) × NameFiles words paths
    × AreKept g image paths opened opened' closed)

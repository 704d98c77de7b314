-- The comparison of two files, and its line.
use Rattle.std.specs.Prelude.{◌≡◌, ◌≤◌, ◌⊎◌, ℕ, List, [], ◌∷◌, ◌++◌, Option, codes, decimal}
use Rattle.std.specs.Io.KnownBytes.{Appends}
use Rattle.sqlite_disk.specs.declared.Disk as disk
use Rattle.sqlite_disk.specs.declared.Files.{Files}
use Rattle.sqlite_wal.specs.Recovery.{Image}
use Rattle.sqlite_wal.specs.Reads.{AreClean}
use Rattle.desk_types.specs.declared.wire.Wire.{Wire}
use Rattle.desk_types.specs.Wire.{inner_of}
use Rattle.desk_types.specs.History.{History}
use Rattle.desk_answers.specs.Sent.{SendsFront}
use Rattle.desk_commands.specs.Told.{unavailable_line, TellsLine}
use Rattle.line_schema.specs.Opening.{fault_text}
use Rattle.desk_file.specs.Files.{HasOursFirst}
use Rattle.desk_laws.specs.Chain.{Carries}
use Rattle.chain_check.specs.Difference.{IsDifference, Refutes}
use Rattle.chain_check.specs.Texts.{both, difference_text}
use Rattle.chain_files.specs.declared.compared.Compared.{Compared}
use Rattle.chain_files.specs.declared.compared.Compared.TheVariants.{Alike, Differs, Refused}
use Rattle.chain_files.specs.declared.compared.Side.{Side}
use Rattle.chain_files.specs.declared.compared.Side.TheVariants.{Old, New}
use Rattle.chain_files.specs.Files.{HoldHistory, IsRefused, placed}

-- ---- the files

-- The meaning of a comparison for an old history and a new one.
abbrev pub SaysOf : Compared → History → History → Type 0
SaysOf (Alike reels mounts) H H' = Carries H H'
SaysOf (Differs difference) H H' = IsDifference H H' difference × Refutes H H' difference
SaysOf (Refused side fault) H H' = ⊥

-- Two files held lawful histories with this relation, and still hold them, if their disks never lied and each held only a
-- desk's tables, or those first.
abbrev pub HoldBoth : {D : Type 0} → disk.Ghosts D → (ℕ → Image) → Files D → Files D
    → (History → History → Type 0) → Type 0
HoldBoth g image old new Relates =
    AreClean g old.log old.db → HasOursFirst (image 0)
    → (H : History) × HoldHistory g (image 0) old H
    × (AreClean g new.log new.db → HasOursFirst (image 1)
    → (H' : History) × HoldHistory g (image 1) new H' × Relates H H')

-- Both files were closed, and held such histories.
abbrev pub FindsBoth : {D : Type 0} → disk.Ghosts D → (ℕ → Image) → List (Files D) → Compared
    → Type 0
FindsBoth {D = D} g image closed found =
    (old : Files D) × (new : Files D) × (closed ≡ old ∷ new ∷ [])
    × HoldBoth g image old new (SaysOf found)

-- What the two files with these paths held.
abbrev pub placed_both : (List ℕ → ℕ → Image) → List ℕ → List ℕ → ℕ → Image
placed_both image old new = placed image (old ∷ new ∷ [])

-- The result of a comparison, by the files that it closed.
abbrev pub Finds : {D : Type 0} → disk.Ghosts D → (ℕ → Image) → List (Files D) → Compared → Type 0
Finds g image closed (Refused Old fault) = IsRefused g (image 0) [] closed fault
Finds {D = D} g image closed (Refused New fault) =
    (old : Files D) × IsRefused g (image 1) (old ∷ []) closed fault
Finds g image closed found = FindsBoth g image closed found

-- ---- its line

abbrev pub side_text : Side → List ℕ
side_text Old = codes "old"
side_text New = codes "new"

-- The line of a comparison, without its line feed.
abbrev pub compared_text : Compared → List ℕ
compared_text (Alike reels mounts) = codes "alike " ++ both (decimal reels) (decimal mounts)
compared_text (Differs difference) = codes "differs " ++ difference_text difference
compared_text (Refused side fault) = both (side_text side) (fault_text fault)

-- The line on the output.
abbrev pub found_line : Compared → List ℕ
found_line found = compared_text found ++ codes "\n"

-- The line on standard error of a file that was refused.
abbrev pub refused_line : Compared → List ℕ
refused_line found = codes "tracedesk: " ++ compared_text found

-- The exit status: the desks are alike, they differ, or a file was refused.
abbrev pub found_status : Compared → ℕ
found_status (Alike reels mounts) = 0
found_status (Differs difference) = 1
found_status (Refused side fault) = 3

-- ---- a run

-- A comparison with this status was made, and its line, and nothing else, was written.
abbrev pub Shows : {W : Type 0} → (Compared → Type 0) → (W → Option (List ℕ))
    → Wire W → Wire W → ℕ → Type 0
Shows Made writes output output' status = (found : Compared) × (found_status found ≡ status)
    × Made found × Appends (writes (inner_of output)) (writes (inner_of output')) (found_line found)

-- A comparison with status 0 or 1 was made, but only the first bytes of its line were written.
abbrev pub ShowsFront : {W : Type 0} → (Compared → Type 0) → (W → Option (List ℕ))
    → Wire W → Wire W → Type 0
ShowsFront Made writes output output' = (found : Compared) × (found_status found ≤ 1)
    × Made found
    × SendsFront (writes (inner_of output)) (writes (inner_of output')) (found_line found)

-- A file was refused, or memory was, and nothing was written.
abbrev pub NoDesk : {W E : Type 0} → (Compared → Type 0) → (E → Option (List ℕ)) → Wire W → Wire W
    → Wire E → Wire E → Type 0
NoDesk Made tells output output' errors errors' =
    (output' ≡ output)
    × (TellsLine tells errors errors' unavailable_line
    ⊎ ((found : Compared) × (found_status found ≡ 3) × Made found
    × TellsLine tells errors errors' (refused_line found)))

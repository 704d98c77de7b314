-- The question that the words ask, with the reels that a file lists.
use Rattle.std.specs.Prelude.{◌≡◌, ◌<◌, ◌≤◌, ◌+◌, ◌-◌, ◌==◌, ⊤, ℕ, List, [], ◌∷◌, ◌++◌, Option, Some, All, drop, if◌then◌else◌, length, take, codes, decimal}
use Rattle.std.specs.List.{slice_get, slice_split}
use Rattle.desk_types.specs.declared.limits.TheConstants.{LONGEST_INPUT}
use Rattle.desk_types.specs.Id.{IsId, Name, same}
use Rattle.desk_feed.specs.Folder.{IsRead}
use Rattle.line_schema.specs.Opening.{fault_text}
use Rattle.line_schema.specs.declared.fault.OpenFault.TheVariants.{Unavailable}
use Rattle.chain_check.specs.declared.question.Question.{Question}
use Rattle.chain_check.specs.declared.question.Question.TheVariants as question
use Rattle.chain_check.specs.declared.question.Subject.{Subject}
use Rattle.chain_check.specs.declared.question.Subject.TheVariants as subject
use Rattle.chain_files.specs.declared.listed.ListFault.{ListFault}
use Rattle.chain_files.specs.declared.listed.ListFault.TheVariants.{Unread, TooLong, BadLine, NoMemory}
use Rattle.chain_files.specs.declared.words.Asked.{Asked}
use Rattle.chain_files.specs.declared.words.Asked.TheVariants.{Chain, Names, Pieces}
use Rattle.chain_files.specs.declared.words.Whose.{Whose}
use Rattle.chain_files.specs.declared.words.Whose.TheVariants.{Lot, Board, Reel, Listed}

-- ---- the lines of a list

-- The bytes without the line feed at their end, if they have one.
abbrev pub without_feed : List ℕ → List ℕ
without_feed bytes = if same (drop (length bytes - 1) bytes) (0x0a ∷ [])
    then take (length bytes - 1) bytes else bytes

abbrev pub lines_of : List ℕ → List (List ℕ)
lines_of bytes = slice_split (λ byte. byte == 0x0a) (without_feed bytes)

-- The lines are these names, at least one.
abbrev pub IsListed : List ℕ → List Name → Type 0
IsListed bytes names = (names ≡ lines_of bytes) × All IsId names

-- The file, if it is known, is no longer than an input may be, and lists these names.
abbrev pub HoldsList : Option (List ℕ) → List Name → Type 0
HoldsList file names = (bytes : List ℕ) × IsRead file bytes × (length bytes ≤ LONGEST_INPUT)
    × IsListed bytes names

-- The first line that is no name has this number, from 1.
abbrev pub IsBadLine : List ℕ → ℕ → Type 0
IsBadLine bytes number = (before : ℕ) × (number ≡ before + 1)
    × All IsId (take before (lines_of bytes))
    × (line : List ℕ) × (slice_get (lines_of bytes) before ≡ Some line) × ¬ IsId line

-- ---- the question

-- What is looked for, by the content of the file that lists reels, if known.
abbrev pub IsSubject : Option (List ℕ) → Whose → Subject → Type 0
IsSubject file (Lot lot part) it = it ≡ subject.Lot lot part
IsSubject file (Board board) it = it ≡ subject.Board board
IsSubject file (Reel reel) it = it ≡ subject.Reels (reel ∷ [])
IsSubject file Listed it = (names : List Name) × (it ≡ subject.Reels names) × HoldsList file names

abbrev pub IsQuestion : Option (List ℕ) → Asked → Question → Type 0
IsQuestion file Chain it = it ≡ question.Chain
IsQuestion file (Names whose) it =
    (about : Subject) × (it ≡ question.Names about) × IsSubject file whose about
IsQuestion file (Pieces whose) it =
    (about : Subject) × (it ≡ question.Pieces about) × IsSubject file whose about

-- ---- its faults

-- The file can't be read, is too long, or else has such a line. Or memory was refused.
abbrev pub IsFaultOfList : Option (List ℕ) → Type 0 → ListFault → Type 0
IsFaultOfList file MayFail Unread = MayFail
IsFaultOfList file MayFail TooLong =
    (bytes : List ℕ) × IsRead file bytes × (LONGEST_INPUT < length bytes)
IsFaultOfList file MayFail (BadLine number) = (bytes : List ℕ) × IsRead file bytes
    × (length bytes ≤ LONGEST_INPUT) × IsBadLine bytes number
IsFaultOfList file MayFail NoMemory = ⊤

-- The fault is that of the list that the words name, if they name one.
abbrev pub IsBadListOf : Option (List ℕ) → Type 0 → Whose → ListFault → Type 0
IsBadListOf file MayFail Listed fault = IsFaultOfList file MayFail fault
IsBadListOf file MayFail whose fault = fault ≡ NoMemory

abbrev pub IsBadList : Option (List ℕ) → Type 0 → Asked → ListFault → Type 0
IsBadList file MayFail Chain fault = ⊥
IsBadList file MayFail (Names whose) fault = IsBadListOf file MayFail whose fault
IsBadList file MayFail (Pieces whose) fault = IsBadListOf file MayFail whose fault

abbrev pub list_fault_text : ListFault → List ℕ
list_fault_text Unread = codes "the list can't be read"
list_fault_text TooLong =
    codes "the list is longer than " ++ decimal LONGEST_INPUT ++ codes " bytes"
list_fault_text (BadLine line) = codes "line " ++ decimal line ++ codes " is no name of a reel"
list_fault_text NoMemory = fault_text Unavailable

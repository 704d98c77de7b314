-- The pieces in doubt as CSV.
use Rattle.std.specs.Prelude.{◌≡◌, ℕ, List, [], ◌∷◌, Option, codes, decimal, map, IsSomeAnd}
use Rattle.sqlite_disk.specs.declared.Disk as disk
use Rattle.sqlite_disk.specs.declared.Files.{Files}
use Rattle.sqlite_wal.specs.Recovery.{Image}
use Rattle.line_doubt.specs.declared.reason.Doubt.{Doubt}
use Rattle.line_doubt.specs.declared.reason.Reason.{Reason}
use Rattle.line_doubt.specs.declared.reason.Reason.TheVariants.{Entry, Boundary, Late, Splice}
use Rattle.line_doubt.specs.Reasons.{AreExplained}
use Rattle.line_file.specs.Files.{AreListsOf}
use Rattle.doubt_file.specs.Files.{TellsDoubts}
use Rattle.trace_reports.specs.Csv.{csv_text}
use Rattle.trace_reports.specs.Sets.{Fields}

abbrev pub word_of : Reason → List ℕ
word_of (Entry number) = codes "entry"
word_of (Boundary number) = codes "boundary"
word_of (Late number) = codes "late"
word_of Splice = codes "splice"

-- The number of the entry of the book, or of the late command; 0 near a splice.
abbrev pub number_of : Reason → ℕ
number_of (Entry number) = number
number_of (Boundary number) = number
number_of (Late number) = number
number_of Splice = 0

abbrev pub doubt_header : Fields
doubt_header = codes "number" ∷ codes "place" ∷ codes "board" ∷ codes "designator" ∷ codes "part"
    ∷ codes "lot" ∷ codes "reel" ∷ codes "machine" ∷ codes "slot" ∷ codes "minute" ∷ codes "reason"
    ∷ codes "of" ∷ []

-- The piece as the history has it, and why it is in doubt.
abbrev pub doubt_fields : Doubt → Fields
doubt_fields d = decimal d.piece.number ∷ decimal d.piece.place ∷ d.piece.board
    ∷ d.piece.designator ∷ d.piece.part ∷ d.piece.lot ∷ d.piece.reel ∷ d.piece.machine
    ∷ d.piece.slot ∷ decimal d.piece.effective ∷ word_of d.reason
    ∷ decimal (number_of d.reason) ∷ []

abbrev pub doubts_text : List Doubt → List ℕ
doubts_text found = csv_text doubt_header (map doubt_fields found)

-- A file was opened and closed, and these are the pieces in doubt by its lists.
abbrev pub HasDoubts : {F : Type 0} → ℕ → disk.Ghosts F → Image → Option (Files F) → List Doubt
    → Type 0
HasDoubts within g image files found =
    IsSomeAnd files (λ f. TellsDoubts within g image f found)

-- It is the text of the pieces in doubt, by the lists that the file held when it was opened.
abbrev pub IsOfDoubts : {F : Type 0} → ℕ → disk.Ghosts F → Image → Option (Files F) → List ℕ
    → Type 0
IsOfDoubts within g image files text = AreListsOf g image files
    (λ H rows B. (found : List Doubt) × AreExplained H B within found × (text ≡ doubts_text found))

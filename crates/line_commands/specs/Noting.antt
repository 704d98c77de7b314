-- What is done with both lists of a file that nobody serves.
use Rattle.std.specs.Prelude.{◌≡◌, ◌⊎◌, ℕ, List, Option, length}
use Rattle.sqlite_disk.specs.declared.Disk as disk
use Rattle.sqlite_trees.specs.declared.store.Store.{Ghosts}
use Rattle.sqlite_wal.specs.Recovery.{Image}
use Rattle.sqlite.specs.State.{HasCleanDisk}
use Rattle.desk_types.specs.History.{Basis}
use Rattle.desk_types.specs.declared.wire.Wire.{Wire}
use Rattle.desk_commands.specs.Told.{TellsLine, unavailable_line}
use Rattle.http_stream.specs.Answers.{Told}
use Rattle.http_stream.specs.Stream.{ForStates, Outcome}
use Rattle.line_answers.specs.declared.noted.Noted.{Noted}
use Rattle.book_store.specs.declared.store.BookStore.{BookStore}
use Rattle.book_store.specs.Lists.{book_state}
use Rattle.line_http.specs.Line.{Line, Represents}
use Rattle.line_http.specs.Rule.{body_said, said_outcome}
use Rattle.line_commands.specs.declared.left.LineLeft.{LineLeft}
use Rattle.line_commands.specs.Serving.{HasNoLists, ServesLists}

-- ---- said

-- What a body that says this does to both lists, and its answer.
abbrev pub saying : Noted → List ℕ → Line → Outcome Line
saying noted body line = said_outcome line noted body (body_said noted (length line.notes) body)

-- This is the answer, and these are the lists afterwards: those of the line's route.
abbrev pub IsSaid : Noted → List ℕ → Told → Line → Line → Type 0
IsSaid noted body answer before after =
    ((saying noted body before).told ≡ answer) × ((saying noted body before).after ≡ after)

-- Both lists are the same, and Unavailable is printed.
abbrev pub StaysSame : {S D E : Type 0} → Ghosts S → (D → Basis → Type 0) → BookStore S D
    → BookStore S D → (E → Option (List ℕ)) → Wire E → Wire E → Type 0
StaysSame g Desks old new tells errors errors' =
    ForStates (Represents g Desks) (λ kept. HasCleanDisk (book_state g kept)) old new
    (λ before after. before ≡ after) × TellsLine tells errors errors' unavailable_line

-- The file was refused. Or memory was: then both lists are those that were opened.
abbrev pub HasNoEntry : {D E : Type 0} {g : disk.Ghosts D} → Image → LineLeft D g
    → (E → Option (List ℕ)) → Wire E → Wire E → Type 0
HasNoEntry image left tells errors errors' = HasNoLists image left tells errors errors'
    ⊎ (ServesLists image left (λ before after. before ≡ after)
    × TellsLine tells errors errors' unavailable_line)

-- ---- counted

-- These are the numbers of commands and entries, and both lists stayed.
abbrev pub AreCounts : ℕ → ℕ → Line → Line → Type 0
AreCounts commands entries before after = (before ≡ after)
    × (commands ≡ length before.desk.history) × (entries ≡ length before.notes)

-- These are the numbers of all lists that the store represents.
abbrev pub AreCountsOf : {S D : Type 0} → Ghosts S → (D → Basis → Type 0) → BookStore S D → ℕ
    → ℕ → Type 0
AreCountsOf g Desks store commands entries = (line : Line) → Represents g Desks store line
    → (commands ≡ length line.desk.history) × (entries ≡ length line.notes)

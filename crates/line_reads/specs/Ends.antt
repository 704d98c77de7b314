-- How the commands on a file end, by their exit status.
use Rattle.std.specs.Prelude.{◌≡◌, ◌⊎◌, ℕ, List, Option, None, Some, codes, decimal, length, map, ◌++◌}
use Rattle.sqlite_disk.specs.declared.Disk as disk
use Rattle.sqlite_disk.specs.declared.Files.{Files}
use Rattle.sqlite_wal.specs.Recovery.{Image}
use Rattle.desk_types.specs.declared.rules.Rules.TheVariants.{Two}
use Rattle.desk_types.specs.History.{History, basis}
use Rattle.desk_types.specs.Id.{Name}
use Rattle.desk_types.specs.declared.wire.Wire.{Wire}
use Rattle.desk_commands.specs.Told.{unavailable_line, TellsLine}
use Rattle.http_stream.specs.Answers.{Told}
use Rattle.http_stream.specs.declared.response.MediaType.TheVariants.{Json}
use Rattle.http_stream.specs.declared.response.Status.{Status}
use Rattle.http_stream.specs.declared.response.Status.TheVariants as status
use Rattle.line_answers.specs.declared.book.Wanted.TheVariants.{After}
use Rattle.line_answers.specs.declared.kind.Kind.TheVariants.{Machine}
use Rattle.line_answers.specs.Book.{book_text, written_row}
use Rattle.line_answers.specs.NotFound.{not_found_text}
use Rattle.line_answers.specs.State.{state_text}
use Rattle.feeder_state.specs.declared.desk.StateDesk.{StateDesk}
use Rattle.feeder_state.specs.State.{Represents}
use Rattle.line_book.specs.Book.{Book}
use Rattle.line_book.specs.Guard.{IsGuard}
use Rattle.line_file.specs.declared.fault.ListFault.{ListFault}
use Rattle.line_file.specs.declared.store.Line.{Line}
use Rattle.line_file.specs.Fault.{list_fault_text}
use Rattle.line_file.specs.Files.{AreListsOf}
use Rattle.line_reads.specs.Reading.{HasFault}

-- The line of an audit: the number of accepted commands, and that of the entries of the book.
abbrev pub counts_line : ℕ → ℕ → List ℕ
counts_line commands entries =
    codes "lawful " ++ (decimal commands ++ (codes " book " ++ (decimal entries ++ codes "\n")))

-- An audit found these numbers: those of the lists that the file held when it was opened.
abbrev pub Counts : {F : Type 0} → disk.Ghosts F → Image → Option (Files F) → ℕ → ℕ → Type 0
Counts g image files commands entries = AreListsOf g image files
    (λ H rows B. (commands ≡ length H) × (entries ≡ length rows))

abbrev pub json_told : Status → List ℕ → Told
json_told s text = record { status = s; kind = Json; body = text }

-- The answer about a machine: its text, or that no sheet is for it.
abbrev pub told_state : Option (List ℕ) → Told
told_state (Some text) = json_told status.Ok text
told_state None = json_told status.NotFound (not_found_text Machine)

-- The answer is that of each history and book for which the line stands.
abbrev pub AnswersBy : Line StateDesk → Name → Told → Type 0
AnswersBy line machine answer = (H : History) (B : Book) → Represents line.desk (basis Two H)
    → IsGuard H B line.lists.guard → line.commands ≡ length H
    → answer ≡ told_state (state_text H B machine)

abbrev pub AnswersState : {F : Type 0} → disk.Ghosts F → Image → Option (Files F) → Name → Told
    → Type 0
AnswersState g image files machine answer = AreListsOf g image files
    (λ H rows B. answer ≡ told_state (state_text H B machine))

-- The book's text, of each history and book for which the line stands.
abbrev pub IsBookBy : Line StateDesk → List ℕ → Type 0
IsBookBy line text = (H : History) (B : Book) → IsGuard H B line.lists.guard
    → text ≡ book_text H B (After 0) (map written_row line.rows.items)

-- It is the book's text, of the lists that the file held when it was opened.
abbrev pub IsBook : {F : Type 0} → disk.Ghosts F → Image → Option (Files F) → List ℕ → Type 0
IsBook g image files text = AreListsOf g image files
    (λ H rows B. text ≡ book_text H B (After 0) (map written_row rows))

-- The line that says which list is at fault.
abbrev pub fault_line : ListFault → List ℕ
fault_line fault = codes "tracedesk: " ++ list_fault_text fault

-- The file has this fault, which is printed, or Unavailable is. Or memory was refused.
abbrev pub HasNoLine : {F E : Type 0} → disk.Ghosts F → Image → Option (Files F)
    → (E → Option (List ℕ)) → Wire E → Wire E → Type 0
HasNoLine g image files tells errors errors' = TellsLine tells errors errors' unavailable_line
    ⊎ ((fault : ListFault) × HasFault g image files fault
    × TellsLine tells errors errors' (fault_line fault))

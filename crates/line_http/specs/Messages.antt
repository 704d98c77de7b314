-- What a message adds to the book.
use Rattle.std.specs.Prelude.{ℕ, Err, List, [], ◌∷◌, None, Ok, Option, Result, Some, if◌then◌else◌, option_map}
use Rattle.cfx_profile.specs.Message.{said_in}
use Rattle.cfx_profile.specs.declared.fault.MessageFault.{MessageFault}
use Rattle.cfx_profile.specs.declared.message.Said.{Said}
use Rattle.cfx_profile.specs.declared.message.Said.TheVariants as said
use Rattle.desk_answers.specs.Commands.{command_answer}
use Rattle.desk_answers.specs.Ledger.{Ledger}
use Rattle.desk_types.specs.StoredText.{stored_text}
use Rattle.line_book.specs.Undecided.{is_known}
use Rattle.line_book.specs.declared.note.Note.{Note}
use Rattle.line_entries.specs.Refusal.{refused}
use Rattle.line_entries.specs.Rows.{note_at}
use Rattle.line_entries.specs.Told.{told_text}
use Rattle.line_entries.specs.Unread.{faulty}
use Rattle.line_entries.specs.declared.row.Sender.{Sender}
use Rattle.line_members.specs.declared.finding.Finding.{Finding}
use Rattle.book_store.specs.Answered.{message_sender}
use Rattle.book_store.specs.Findings.{findings_in}
use Rattle.line_http.specs.Line.{Line, next_note, next_place, with_entry}

-- The entry of a message, if it makes one: that of a refusal, or of a fault.
abbrev pub message_entry : Line → List ℕ → Result Said MessageFault → Option Note
message_entry line told (Ok (said.Ignored name)) = None
message_entry line told (Ok (said.Asked s)) =
    option_map (λ m. note_at (next_place line) m (stored_text s.command))
    (refused line.desk.history s.command
    (command_answer line.desk.rules line.desk.greatest line.desk.history s))
message_entry line told (Err fault) =
    option_map (λ m. note_at (next_place line) m (told_text told)) (faulty told fault)

-- The book with the entry. An entry that is in it and not closed isn't written again.
abbrev pub noted : Line → Sender → List ℕ → Option Note → Line
noted line sender told None = line
noted line sender told (Some n) = if is_known line.desk.history line.notes n then line
    else with_entry line n sender told

-- The book with an entry for each finding.
abbrev pub with_findings : Line → List Finding → Sender → Line
with_findings line [] sender = line
with_findings line (f ∷ fs) sender =
    with_findings (with_entry line (next_note line f.matter) sender f.told) fs sender

-- The findings in a message, by the desk that hears it.
abbrev pub findings_by : Ledger → List ℕ → List Finding
findings_by desk told = findings_in desk.rules desk.greatest desk.history told (said_in told)

-- The book after a message: with its entry, or with those of its findings.
abbrev pub heard : Line → List ℕ → Line
heard line told = with_findings
    (noted line (message_sender (said_in told)) told (message_entry line told (said_in told)))
    (findings_by line.desk told) (message_sender (said_in told))

-- The answer to an import and the history after it.
use Rattle.std.specs.Prelude.{◌≡◌, ℕ, Bool, true, false, List, Option, IfSome, Result, Ok, Err}
use Rattle.std.specs.Io.KnownBytes.{Appends}
use Rattle.cfx_profile.specs.Answer.{unavailable_text}
use Rattle.desk_types.specs.declared.command.Stamped.{Stamped}
use Rattle.desk_types.specs.History.{History}
use Rattle.desk_answers.specs.Commands.{command_after}
use Rattle.desk_answers.specs.Ledger.{Ledger}
use Rattle.imports.specs.declared.fault.ImportFault.{ImportFault}
use Rattle.imports.specs.Answer.{fault_text}
use Rattle.imports.specs.Import.{command_said}
use Rattle.desk_answers.specs.Sent.{SendsFront}
use Rattle.desk_answers.specs.declared.sending.WriteFailed.{WriteFailed}
use Rattle.desk_feed.specs.declared.message.AnswerText.{AnswerText}
use Rattle.desk_feed.specs.declared.message.Verdict.TheVariants.{Faulty, Unavailable}
use Rattle.desk_feed.specs.Messages.{answer_asked}
use Rattle.desk_feed.specs.Stream.{sent_line}
use Rattle.desk_feed.specs.Verdicts.{is_refused}
use Rattle.imports.specs.declared.import.Import.{Import}

-- The result is that of the whole file, if known.
abbrev pub IsSaidBy : Import → Option (List ℕ) → Result Stamped ImportFault → Type 0
IsSaidBy import file said = IfSome file (λ all. said ≡ command_said import all)

-- ---- answers

-- The answer from a ledger: Faulty, or the command's.
abbrev pub answer_said : Ledger → Result Stamped ImportFault → AnswerText
answer_said G (Ok s) = answer_asked G.rules G.greatest G.history s
answer_said G (Err fault) = record { text = fault_text fault; verdict = Faulty }

-- The history after it, unchanged by a faulty file.
abbrev pub after_said : Ledger → Result Stamped ImportFault → History
after_said G (Ok s) = command_after G.rules G.greatest G.history s
after_said G (Err fault) = G.history

-- The answer that is sent: Unavailable if marked.
abbrev pub import_answer : Bool → Ledger → Result Stamped ImportFault → AnswerText
import_answer true G said = record { text = unavailable_text; verdict = Unavailable }
import_answer false G said = answer_said G said

-- The history after that answer, unchanged by Unavailable.
abbrev pub import_after : Bool → Ledger → Result Stamped ImportFault → History
import_after true G said = G.history
import_after false G said = after_said G said

-- The answer was sent whole with its line feed, with this history and refusal.
abbrev pub IsAnswered : Result Stamped ImportFault → Option (List ℕ) → Option (List ℕ) → Bool
    → Ledger → History → Type 0
IsAnswered said out out' refused G H = (mark : Bool) × (H ≡ import_after mark G said)
    × Appends out out' (sent_line (import_answer mark G said))
    × (refused ≡ is_refused (import_answer mark G said))

-- Only the first bytes of the answer were sent.
abbrev pub IsCutOff : Result Stamped ImportFault → Option (List ℕ) → Option (List ℕ)
    → Ledger → History → Type 0
IsCutOff said out out' G H = (mark : Bool) × (H ≡ import_after mark G said)
    × SendsFront out out' (sent_line (import_answer mark G said))

-- The answer was sent: whole, with this refusal, or only its first bytes.
abbrev pub AnswersFile : Result Stamped ImportFault → Option (List ℕ) → Option (List ℕ)
    → Result Bool WriteFailed → Ledger → History → Type 0
AnswersFile said out out' (Ok refused) G H = IsAnswered said out out' refused G H
AnswersFile said out out' (Err fault) G H = IsCutOff said out out' G H

-- What both lists keep of a message or a command that was answered.
use Rattle.std.specs.Prelude.{◌≡◌, ℕ, Err, List, None, Ok, Option, Result}
use Rattle.desk_types.specs.declared.command.Stamped.{Stamped}
use Rattle.desk_types.specs.declared.rules.Rules.TheVariants.{Two}
use Rattle.desk_types.specs.History.{History}
use Rattle.cfx_profile.specs.Answer.{fault_text, ignored_text}
use Rattle.cfx_profile.specs.declared.fault.MessageFault.{MessageFault}
use Rattle.cfx_profile.specs.declared.message.Said.{Said}
use Rattle.cfx_profile.specs.declared.message.Said.TheVariants.{Asked, Ignored}
use Rattle.cfx_profile.specs.Message.{said_in}
use Rattle.desk_answers.specs.declared.answer.Answer.{Answer}
use Rattle.desk_answers.specs.Commands.{answer_text, command_after, command_answer}
use Rattle.desk_feed.specs.declared.message.AnswerText.{AnswerText}
use Rattle.desk_feed.specs.declared.message.Verdict.TheVariants as verdict
use Rattle.desk_feed.specs.Messages.{after_heard, answer_asked, answer_heard}
use Rattle.desk_feed.specs.Verdicts.{command_verdict, message_verdict}
use Rattle.line_book.specs.declared.note.Note.{Note}
use Rattle.line_entries.specs.declared.row.Sender.{Sender}
use Rattle.book_store.specs.Findings.{AddsFindings, findings_in}
use Rattle.book_store.specs.Lists.{Lists}
use Rattle.book_store.specs.Noted.{KeepsAny, fault_entry, nobody, refusal_entry, sender_of}

abbrev pub with_history : Lists → History → Lists
with_history L H = record L { kept = record L.kept { history = H } }

-- ---- texts

abbrev pub ignored_told : List ℕ → AnswerText
ignored_told name = record { text = ignored_text name; verdict = verdict.Ignored }

abbrev pub command_told : Stamped → Answer → AnswerText
command_told s answer =
    record { text = answer_text s.uid answer; verdict = command_verdict answer }

abbrev pub fault_told : MessageFault → AnswerText
fault_told fault = record { text = fault_text fault; verdict = message_verdict fault }

-- ---- a command

-- The command was answered with no entry.
abbrev pub AnswersCommand : Lists → Stamped → AnswerText → Lists → Type 0
AnswersCommand L s text M = (text ≡ answer_asked Two L.kept.greatest L.kept.history s)
    × (M ≡ with_history L (command_after Two L.kept.greatest L.kept.history s))

-- The final answer as a text, and the entry of a refusal.
abbrev pub KeepsRefusal : Lists → List ℕ → Stamped → Answer → AnswerText → Lists → Type 0
KeepsRefusal L told s answer text M = (text ≡ command_told s answer)
    × KeepsAny L (refusal_entry L s answer) (sender_of s) told M

-- ---- a message

-- The entry that a message makes.
abbrev pub message_entry : Lists → List ℕ → Result Said MessageFault → Option Note
message_entry L told (Ok (Ignored name)) = None
message_entry L told (Ok (Asked s)) =
    refusal_entry L s (command_answer Two L.kept.greatest L.kept.history s)
message_entry L told (Err fault) = fault_entry L told fault

abbrev pub message_sender : Result Said MessageFault → Sender
message_sender (Ok (Ignored name)) = nobody
message_sender (Ok (Asked s)) = sender_of s
message_sender (Err fault) = nobody

-- The answer to a message's content, its entry or those of its findings, and the history after it.
abbrev pub AnswersSaid : Lists → List ℕ → Result Said MessageFault → AnswerText → Lists → Type 0
AnswersSaid L told said text M = (text ≡ answer_heard Two L.kept.greatest L.kept.history said)
    × (N : Lists) × KeepsAny L (message_entry L told said) (message_sender said) told N
    × (O : Lists) × AddsFindings N (findings_in Two L.kept.greatest L.kept.history told said)
    (message_sender said) O
    × (M ≡ with_history O (after_heard Two L.kept.greatest L.kept.history said))

-- The same of a message.
abbrev pub AnswersMessage : Lists → List ℕ → AnswerText → Lists → Type 0
AnswersMessage L told text M = AnswersSaid L told (said_in told) text M

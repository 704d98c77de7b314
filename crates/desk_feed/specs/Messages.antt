-- The answer to a message and the history after it, given the commands accepted before.
use Rattle.std.specs.Prelude.{ℕ, List, Result, Ok, Err}
use Rattle.desk_types.specs.declared.rules.Rules.{Rules}
use Rattle.desk_types.specs.declared.command.Stamped.{Stamped}
use Rattle.desk_types.specs.History.{History}
use Rattle.cfx_profile.specs.declared.fault.MessageFault.{MessageFault}
use Rattle.cfx_profile.specs.declared.message.Said.{Said}
use Rattle.cfx_profile.specs.declared.message.Said.TheVariants.{Ignored, Asked}
use Rattle.cfx_profile.specs.Answer.{fault_text, ignored_text}
use Rattle.cfx_profile.specs.Message.{said_in}
use Rattle.desk_feed.specs.declared.message.AnswerText.{AnswerText}
use Rattle.desk_feed.specs.declared.message.Verdict.TheVariants as verdict
use Rattle.desk_answers.specs.Commands.{command_answer, command_after, answer_text}
use Rattle.desk_feed.specs.Verdicts.{command_verdict, message_verdict}

-- The answer to a command.
abbrev pub answer_asked : Rules → ℕ → History → Stamped → AnswerText
answer_asked rules greatest H s = record {
  text = answer_text s.uid (command_answer rules greatest H s);
  verdict = command_verdict (command_answer rules greatest H s);
}

-- The answer to a message's content.
abbrev pub answer_heard : Rules → ℕ → History → Result Said MessageFault → AnswerText
answer_heard rules greatest H (Ok (Ignored name)) =
    record { text = ignored_text name; verdict = verdict.Ignored }
answer_heard rules greatest H (Ok (Asked s)) = answer_asked rules greatest H s
answer_heard rules greatest H (Err fault) =
    record { text = fault_text fault; verdict = message_verdict fault }

-- The history after a message's content, changed only by commands.
abbrev pub after_heard : Rules → ℕ → History → Result Said MessageFault → History
after_heard rules greatest H (Ok (Ignored name)) = H
after_heard rules greatest H (Ok (Asked s)) = command_after rules greatest H s
after_heard rules greatest H (Err fault) = H

-- The answer to the bytes of a message after H, for these rules and greatest number.
abbrev pub answer_to : Rules → ℕ → History → List ℕ → AnswerText
answer_to rules greatest H bytes = answer_heard rules greatest H (said_in bytes)

-- The history after the bytes of a message.
abbrev pub list_after : Rules → ℕ → History → List ℕ → History
list_after rules greatest H bytes = after_heard rules greatest H (said_in bytes)

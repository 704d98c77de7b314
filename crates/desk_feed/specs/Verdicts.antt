-- What an answer says became of its message, line or import.
use Rattle.std.specs.Prelude.{Bool, true, false}
use Rattle.cfx_profile.specs.declared.fault.MessageFault.{MessageFault}
use Rattle.cfx_profile.specs.declared.fault.MessageFault.TheVariants.{BodyMember, OverLimit}
use Rattle.desk_answers.specs.declared.answer.Answer.{Answer}
use Rattle.desk_answers.specs.declared.answer.Answer.TheVariants as answer
use Rattle.desk_feed.specs.declared.message.AnswerText.{AnswerText}
use Rattle.desk_feed.specs.declared.message.Verdict.{Verdict}
use Rattle.desk_feed.specs.declared.message.Verdict.TheVariants.{Accepted, Ignored, Refused, Unreadable, Faulty, Unavailable}

-- The verdict of the answer to a command.
abbrev pub command_verdict : Answer → Verdict
command_verdict (answer.Accepted n text) = Accepted
command_verdict answer.Unavailable = Unavailable
command_verdict _ = Refused

-- The verdict on a message that can't be read.
abbrev pub message_verdict : MessageFault → Verdict
message_verdict (BodyMember m) = Faulty
message_verdict (OverLimit m) = Faulty
message_verdict _ = Unreadable

-- Whether an answer counts as refused: all except Accepted and Ignored do.
abbrev pub counts_as_refused : Verdict → Bool
counts_as_refused Accepted = false
counts_as_refused Ignored = false
counts_as_refused _ = true

abbrev pub is_refused : AnswerText → Bool
is_refused told = counts_as_refused told.verdict

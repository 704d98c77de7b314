use Rattle.desk_answers.proofs.Sameness.{equal_messages, same_messages}
use Rattle.desk_answers.proofs.law.same_messages_are_equal.Goals as goal

pub returns : goal.returns
returns c = λ first again. (same_messages first again, equal_messages first again)

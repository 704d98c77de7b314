use Rattle.desk_types.proofs.Common.{false, rules}
use Rattle.http_stream.proofs.serving.answer_portion.Goals as goal

-- The state is unchanged.

pub returns-in-BadHead-clause-told : goal.returns-in-BadHead-clause-told
returns-in-BadHead-clause-told g c = λ s stands trusts. (s, stands, (false, search rules, search rules))

pub returns-in-HeadTooLarge-clause-told : goal.returns-in-HeadTooLarge-clause-told
returns-in-HeadTooLarge-clause-told g c = λ s stands trusts. (s, stands, (false, search rules, search rules))

pub returns-in-Unread-clause-told : goal.returns-in-Unread-clause-told
returns-in-Unread-clause-told g c = λ s stands trusts. (s, stands, (false, search rules, search rules))

pub returns-in-Starved-clause-told : goal.returns-in-Starved-clause-told
returns-in-Starved-clause-told g c = λ s stands trusts. (s, stands, (false, search rules, search rules))

use Rattle.desk_types.proofs.Common.{◌∙◌}
use Rattle.feeder_state.proofs.AcceptedChanges.{state-alternate}
use Rattle.feeder_state.proofs.desk.StateDeskFacts.alternates.Goals as goal

pub returns : goal.returns
returns c = λ H state p q. c.alternate_set.ensures p q ∙ state-alternate H c.args.self.now p q state

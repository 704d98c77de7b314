use Rattle.desk_types.proofs.Common.{◌∙◌}
use Rattle.feeder_state.proofs.AcceptedChanges.{state-part}
use Rattle.feeder_state.proofs.desk.StateDeskFacts.parts.Goals as goal

pub returns : goal.returns
returns c = λ H part state. c.part_set.ensures part ∙ state-part H c.args.self.now part state

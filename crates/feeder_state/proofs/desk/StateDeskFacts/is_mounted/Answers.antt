use Rattle.desk_types.proofs.Common.{◌∙◌}
use Rattle.feeder_state.proofs.AcceptedChanges.{state-mounted}
use Rattle.feeder_state.proofs.desk.StateDeskFacts.is_mounted.Goals as goal

pub returns : goal.returns
returns c = λ H state. c.is_mounted.ensures ∙ state-mounted H c.args.self.now c.args.reel.now state

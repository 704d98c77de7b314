use Rattle.desk_types.proofs.Common.{◌∙◌, sym}
use Rattle.judging.proofs.EmptyHistory.{no-mounts}
use Rattle.feeder_state.proofs.views.slots_of.Goals as goal

pub returns-in_default : goal.returns-in_default
returns-in_default c = λ H told floor has. sym (no-mounts H c.args.machine.now (sym told.minute_is ∙ c.in_default.is))

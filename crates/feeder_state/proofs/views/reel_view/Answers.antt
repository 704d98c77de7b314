use Rattle.desk_types.proofs.Common.{◌∙◌, sym}
use Rattle.judging.proofs.EmptyHistory.{no-reel}
use Rattle.feeder_state.proofs.views.reel_view.Goals as goal

pub returns-in-None : goal.returns-in-None
returns-in-None c = λ H told. sym (no-reel H c.args.name.now (sym told.minute_is ∙ c.in-None.is))

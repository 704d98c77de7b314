use Rattle.desk_types.proofs.Common.{◌∙◌}
use Rattle.feeder_state.proofs.resting.end_each.Goals as goal

pub loop-take-preserved : goal.loop-take-preserved
loop-take-preserved c = λ r some. c.end_rest.ensures r some ∙ c.loop-take.invariant r some

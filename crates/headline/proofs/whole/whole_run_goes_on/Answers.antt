use Rattle.headline.proofs.WholeRuns.{goes_on_closed}
use Rattle.headline.proofs.whole.whole_run_goes_on.Goals as goal

pub returns : goal.returns
returns g c = λ closed.
    goes_on_closed c.next_run_goes_on.ensures.ours_first c.next_run_goes_on.ensures.same g.T.Start _ c.whole_run.result.0 c.whole_run.result.1 c.whole_run.ensures.runs closed

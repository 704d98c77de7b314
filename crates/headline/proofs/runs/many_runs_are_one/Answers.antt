use Rattle.headline.proofs.RunsInTurn.{are_one}
use Rattle.headline.proofs.runs.many_runs_are_one.Goals as goal

pub returns : goal.returns
returns c = λ reports run runs. are_one reports c.next_run_goes_on.ensures.ours_first c.next_run_goes_on.ensures.same run runs

use Rattle.headline.proofs.ProgramRuns.{gives_calls, is_whole_run}
use Rattle.headline.specs.Closed.{GivesWholeRun}
use Rattle.headline.proofs.runs.whole_runs_are_runs.Goals as goal

pub returns : goal.returns
returns g c =
    gives_calls (GivesWholeRun g.T.Start _ c.args.files.now)
    (λ Fact calls answers make image. is_whole_run _ g.T.Start make c.args.files.now image Fact calls answers)

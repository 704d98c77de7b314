use Rattle.headline.{proofs.ProgramRuns.gives_calls, proofs.ProgramRuns.is_run, specs.Closed.GivesClosedRun}
use Rattle.headline.proofs.runs.closed_runs_are_runs.Goals as goal

pub returns : goal.returns
returns g c =
    gives_calls (GivesClosedRun g.T.Start c.args.desk.now c.args.files.now)
    (λ Fact calls answers make image. is_run g.T.Start make c.args.desk.now c.args.files.now image Fact calls answers)

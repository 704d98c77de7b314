use Rattle.gateway_http.specs.Reports.{report_of}
use Rattle.headline.proofs.ProgramRuns.{called, is_crashed_run}
use Rattle.headline.specs.Calls.{AnswersByTheList}
use Rattle.headline.proofs.runs.killed_runs_are_runs.Goals as goal

pub returns : goal.returns
returns g c = λ make calls image runs made.
    is_crashed_run g.T.Start make c.args.last.now c.args.files.now image (λ G H. AnswersByTheList report_of G calls H) calls (λ G H fact. fact)
    (called g.T.Start make c.args.opened.now c.args.last.now calls runs made)

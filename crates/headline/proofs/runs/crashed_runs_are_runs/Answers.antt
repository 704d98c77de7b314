use Rattle.gateway_http.specs.Reports.{report_of}
use Rattle.headline.proofs.ProgramRuns.{gives_calls, is_crashed_run}
use Rattle.headline.specs.{Calls.AnswersByTheList, Crashed.GivesKilledRun}
use Rattle.headline.proofs.runs.crashed_runs_are_runs.Goals as goal

pub returns-clause-crashed : goal.returns-clause-crashed
returns-clause-crashed g c = λ calls make image.
    is_crashed_run g.T.Start make c.args.desk.now c.args.files.now image (λ G H. AnswersByTheList report_of G calls H) calls (λ G H fact. fact)

pub returns-clause-calls : goal.returns-clause-calls
returns-clause-calls g c =
    gives_calls (GivesKilledRun g.T.Start c.args.desk.now c.args.files.now)
    (λ Fact calls answers make image. is_crashed_run g.T.Start make c.args.desk.now c.args.files.now image Fact calls answers)

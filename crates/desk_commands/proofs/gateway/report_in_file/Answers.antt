use Rattle.desk_types.proofs.Common.{inl, None, refl}
use Rattle.desk_commands.proofs.{EndsOfRuns.report_follows, EndsOfRuns.report_refused, RunsOnFiles.runs_on}
use Rattle.desk_commands.specs.OpenRuns.{AnswersReport}
use Rattle.gateway_http.specs.Reports.{report_of}
use Rattle.desk_commands.proofs.gateway.report_in_file.Goals as goal

pub returns-in-Ok-clause-ends : goal.returns-in-Ok-clause-ends
returns-in-Ok-clause-ends g c =
    let run = c.tell_report-status in
    report_follows run.ensures.ends (λ answer. runs_on g.T.Start None c.in-Ok.store run.new.owner (AnswersReport report_of c.args.target.now answer) run.ensures.trusts c.in-Ok.ensures.begins) (λ none. absurd none)

pub returns-in-Err-clause-ends : goal.returns-in-Err-clause-ends
returns-in-Err-clause-ends g c = report_refused c.tell_refusal.ensures.status (inl (c.in-Err.refusal.fault, (refl, c.in-Err.ensures.refused), c.tell_refusal.ensures.told))

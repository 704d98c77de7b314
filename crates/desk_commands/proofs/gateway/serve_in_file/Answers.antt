use Rattle.desk_types.proofs.Common.{inl, refl, Some}
use Rattle.desk_commands.proofs.{EndsOfRuns.serving_follows, EndsOfRuns.serving_refused, RunsOnFiles.runs_on}
use Rattle.desk_commands.specs.Runs.{ServesEach}
use Rattle.desk_commands.proofs.gateway.serve_in_file.Goals as goal

pub returns-in-Ok-clause-ends : goal.returns-in-Ok-clause-ends
returns-in-Ok-clause-ends g c =
    let run = c.serve_owner-status in
    serving_follows run.ensures.ends (λ es. runs_on g.T.Start (Some c.args.greatest) c.in-Ok.store run.new.owner (ServesEach es) run.ensures.trusts c.in-Ok.ensures.begins) (λ none. absurd none)

pub returns-in-Err-clause-ends : goal.returns-in-Err-clause-ends
returns-in-Err-clause-ends g c = serving_refused c.tell_refusal.ensures.status (inl (c.in-Err.refusal.fault, (refl, c.in-Err.ensures.refused), c.tell_refusal.ensures.told), refl)

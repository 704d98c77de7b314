use Rattle.desk_types.proofs.Common.{inl, inr, None, refl}
use Rattle.desk_commands.proofs.EndsOfRuns.{import_follows, import_refused}
use Rattle.desk_commands.proofs.RunsOnFiles.{runs_on, stays}
use Rattle.desk_commands.proofs.exchange.import_in_file.Goals as goal

pub returns-in-Ok-clause-ends : goal.returns-in-Ok-clause-ends
returns-in-Ok-clause-ends g c =
    let row = c.import_rows-status in
    import_follows row.ensures.ends (λ Fact. runs_on g.T.Start None c.in-Ok.store row.new.owner Fact row.ensures.trusts c.in-Ok.ensures.begins)
    (λ none. inr (stays g.T.Start None c.in-Ok.store row.new.owner none.0 c.in-Ok.ensures.begins, none.1))

pub returns-in-Err-clause-ends : goal.returns-in-Err-clause-ends
returns-in-Err-clause-ends g c = import_refused c.tell_refusal.ensures.status (inl (c.in-Err.refusal.fault, (refl, c.in-Err.ensures.refused), c.tell_refusal.ensures.told))

use Rattle.desk_types.proofs.Common.{arith, inl, inr, None, refl}
use Rattle.desk_commands.proofs.EndsOfRuns.{print_follows, print_refused}
use Rattle.desk_commands.proofs.RunsOnFiles.{audits, stays}
use Rattle.desk_commands.proofs.looks.audit_file.Goals as goal

pub returns-in-Ok-clause-ends : goal.returns-in-Ok-clause-ends
returns-in-Ok-clause-ends g c = (
  c.count.result,
  print_follows c.tell_lawful-status.ensures.ends (λ none. inr (stays g.T.Start None c.in-Ok.store c.in-Ok.store refl c.in-Ok.ensures.begins, none)),
  λ _. audits g.T.Start c.in-Ok.store c.count.result c.in-Ok.ensures.stands c.in-Ok.ensures.begins c.count.ensures,
)

pub returns-in-Err-clause-ends : goal.returns-in-Err-clause-ends
returns-in-Err-clause-ends g c =
    let is = c.tell_refusal.ensures.status in
    (0, print_refused is (inl (c.in-Err.refusal.fault, (refl, c.in-Err.ensures.refused), c.tell_refusal.ensures.told)), λ at. absurd (omega (arith, is, at)))

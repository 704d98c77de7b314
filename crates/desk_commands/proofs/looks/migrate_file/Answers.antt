use Rattle.desk_types.proofs.Common.{arith, inl, inr, refl}
use Rattle.desk_commands.proofs.EndsOfRuns.{print_refused}
use Rattle.desk_commands.proofs.looks.migrate_file.Goals as goal

pub returns-in-Ok-clause-ends : goal.returns-in-Ok-clause-ends
returns-in-Ok-clause-ends g c =
    let sent = c.send_text-status.ensures in
    let at = sent.status in record {
      status = elim at [ inl done ↦ inl done | inr failed ↦ inr (inr failed) ];
      done = sent.done;
      no_desk = λ is. absurd (omega (arith, at, is));
      untouched = λ is. absurd (omega (arith, at, is));
      failed = sent.failed;
      front = sent.front;
      well = sent.well;
    }

pub returns-in-Ok-clause-migrates : goal.returns-in-Ok-clause-migrates
returns-in-Ok-clause-migrates g c = λ _. c.in-Ok.ensures.migrated

pub returns-in-Err-clause-ends : goal.returns-in-Err-clause-ends
returns-in-Err-clause-ends g c = print_refused c.tell_refusal.ensures.status (inl (c.in-Err.refusal.fault, (refl, c.in-Err.ensures.refused), c.tell_refusal.ensures.told))

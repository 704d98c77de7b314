use Rattle.desk_types.proofs.Common.{refl}
use Rattle.desk_commands.proofs.{EndsOfRuns.serving_follows, EndsOfRuns.serving_refused}
use Rattle.line_commands.proofs.serving.serve_in_file.Goals as goal

pub returns-in-Ok : goal.returns-in-Ok
returns-in-Ok g c = record {
  ends = serving_follows c.serve_store-status.ensures.ends
      (λ es answers. (c.in-Ok.store, c.in-Ok.ensures.opened, answers)) (λ none. absurd none);
}

pub returns-in-Err : goal.returns-in-Err
returns-in-Err g c = record {
  ends = serving_refused c.tell_fault.ensures.status
      ((c.in-Err.fault, c.in-Err.ensures.refused, c.tell_fault.ensures.told), refl);
}

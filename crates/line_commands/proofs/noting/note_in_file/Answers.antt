use Rattle.desk_types.proofs.Common.{inl, inr}
use Rattle.desk_commands.proofs.EndsOfRuns.{report_follows, report_refused}
use Rattle.line_commands.proofs.noting.note_in_file.Goals as goal

pub returns-in-Ok : goal.returns-in-Ok
returns-in-Ok g c = record {
  ends = report_follows c.tell_saying-status.ensures.ends
      (λ answer said. (c.in-Ok.store, c.in-Ok.ensures.opened, said))
      (λ none. inr ((c.in-Ok.store, c.in-Ok.ensures.opened, none.0), none.1));
}

pub returns-in-Err : goal.returns-in-Err
returns-in-Err g c = record {
  ends = report_refused c.tell_fault.ensures.status
      (inl (c.in-Err.fault, c.in-Err.ensures.refused, c.tell_fault.ensures.told));
}

use Rattle.desk_types.proofs.Common.{inl}
use Rattle.desk_commands.proofs.EndsOfRuns.{report_follows, report_refused}
use Rattle.line_reads.proofs.ListsRead.{err-of, no-line, some-of}
use Rattle.line_reads.proofs.state.tell_state.Goals as goal

pub returns-in-Ok-clause-ends : goal.returns-in-Ok-clause-ends
returns-in-Ok-clause-ends g c =
    report_follows c.tell_answer.ensures.ends
    (λ answer by. some-of c.read_file-line.result.0 c.read_file-line.result.1 c.in-Ok.line c.in-Ok.is _ _
    (λ f found clean. (
      (found clean).0,
      λ place.
          let at = (found clean).1 place in
          let is = by at.history at.notes at.desk at.guard at.count in
          (at.db, at.found, at.greatest, at.history, at.rows, at.notes, at.lists, is),
    ))
    c.read_file-line.ensures.lists)
    (λ none. inl none)

pub returns-in-Err-clause-ends : goal.returns-in-Err-clause-ends
returns-in-Err-clause-ends g c =
    report_refused c.tell_fault.ensures.status (no-line _ _ c.in-Err.fault
    (err-of c.read_file-line.result.0 c.in-Err.fault _ c.in-Err.is c.read_file-line.ensures.fault)
    c.tell_fault.ensures.told)

use Rattle.desk_types.proofs.Common.{[], ap, arith, inl}
use Rattle.desk_commands.proofs.EndsOfRuns.{print_follows, print_refused}
use Rattle.line_reads.specs.Doubts.{doubts_text}
use Rattle.line_reads.proofs.ListsRead.{err-of, no-line, some-of}
use Rattle.line_reads.proofs.doubts.tell_doubts.Goals as goal

pub returns-in-Ok-clause-ends : goal.returns-in-Ok-clause-ends
returns-in-Ok-clause-ends g c =
    let found = c.in-Ok.found in (
      doubts_text c.deref.result.now,
      print_follows c.tell_pieces.ensures.ends (λ none. inl none),
      λ _. some-of c.find_doubts-found.result.0 c.find_doubts-found.result.1 found c.in-Ok.is _ _
          (λ f finds clean. (
            (finds clean).0,
            λ place.
                let at = (finds clean).1 place in (
                  at.db,
                  at.opened,
                  at.greatest,
                  at.history,
                  at.rows,
                  at.notes,
                  at.lists,
                  (found.items, at.explained, ap doubts_text c.deref.ensures.value),
                ),
          ))
          c.find_doubts-found.ensures.doubts,
    )

pub returns-in-Err-clause-ends : goal.returns-in-Err-clause-ends
returns-in-Err-clause-ends g c =
    let is = c.tell_fault.ensures.status in (
      [],
      print_refused is (no-line _ _ c.in-Err.fault
          (err-of c.find_doubts-found.result.0 c.in-Err.fault _ c.in-Err.is c.find_doubts-found.ensures.fault)
          c.tell_fault.ensures.told),
      λ at. absurd (omega (arith, is, at)),
    )

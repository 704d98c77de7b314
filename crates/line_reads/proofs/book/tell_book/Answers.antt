use Rattle.desk_types.proofs.Common.{[], ◌∙◌, ap, arith, inl}
use Rattle.desk_commands.proofs.EndsOfRuns.{print_follows, print_refused}
use Rattle.line_answers.specs.Book.{book_text}
use Rattle.line_answers.specs.declared.book.Wanted.TheVariants.{After}
use Rattle.line_reads.proofs.ListsRead.{err-of, no-line, some-of}
use Rattle.line_reads.proofs.book.tell_book.Goals as goal

pub returns-in-Ok-clause-ends : goal.returns-in-Ok-clause-ends
returns-in-Ok-clause-ends g c =
    let line = c.in-Ok.line in
    let told = c.tell_rows.ensures.ends in (
      told.0,
      print_follows told.1 (λ none. inl none),
      λ ended. some-of c.read_file-line.result.0 c.read_file-line.result.1 line c.in-Ok.is _ _
          (λ f found clean. (
            (found clean).0,
            λ place.
                let at = (found clean).1 place in
                let text = told.2 ended at.history at.notes at.guard in (
                  at.db,
                  at.found,
                  at.greatest,
                  at.history,
                  at.rows,
                  at.notes,
                  at.lists,
                  text ∙ ap (book_text at.history at.notes (After 0)) at.told,
                ),
          ))
          c.read_file-line.ensures.lists,
    )

pub returns-in-Err-clause-ends : goal.returns-in-Err-clause-ends
returns-in-Err-clause-ends g c =
    let is = c.tell_fault.ensures.status in (
      [],
      print_refused is (no-line _ _ c.in-Err.fault
          (err-of c.read_file-line.result.0 c.in-Err.fault _ c.in-Err.is c.read_file-line.ensures.fault)
          c.tell_fault.ensures.told),
      λ at. absurd (omega (arith, is, at)),
    )

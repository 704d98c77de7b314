use Rattle.desk_types.proofs.Common.{◌∙◌, rules, sym}
use Rattle.line_book_store.proofs.CheckedRows.{stops_by}
use Rattle.line_book_store.proofs.ReadEntries.{not-read}
use Rattle.line_book_store.proofs.checking.note_of.Goals as goal

pub returns-in-Err-clause-err : goal.returns-in-Err-clause-err
returns-in-Err-clause-err c = stops_by c.args.row.now c.args.reading.now c.wrong_after-wrong.result c.wrong_after-wrong.ensures (λ e n numbers same read. c.in-Err.ensures.err (search rules) e numbers same)

pub returns-in-Ok-2-clause-ok : goal.returns-in-Ok-2-clause-ok
returns-in-Ok-2-clause-ok c =
    let it = c.in_ok-note.ensures.entry in
    (c.in-Ok.entry, c.in-Ok.ensures.ok, (it.0, it.1, sym it.2 ∙ c.in-Ok-2.is), search rules)

pub returns-clause-err : goal.returns-clause-err
returns-clause-err c =
    let it = c.in_ok-note.ensures.entry in
    stops_by c.args.row.now c.args.reading.now c.wrong_after-wrong.result c.wrong_after-wrong.ensures
    (λ e n numbers same read. not-read c.args.reading.now c.in-Ok.entry it.0 c.in-Err-2.field-0 it.1 (sym it.2 ∙ c.in-Err-2.is) e n (sym c.in-Ok.ensures.ok ∙ same) read)

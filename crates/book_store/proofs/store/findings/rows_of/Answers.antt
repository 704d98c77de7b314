use Rattle.desk_types.proofs.Common.{◌++◌, arith, List, subst, sym}
use Rattle.line_book.specs.declared.row.BookRow.{BookRow}
use Rattle.book_store.proofs.AddingFindings.{all_rows, row_more}
use Rattle.book_store.specs.Findings.{AreRowsOf}
use Rattle.book_store.proofs.store.findings.rows_of.Goals as goal

pub loop-finding-init : goal.loop-finding-init
loop-finding-init c = λ others are. subst
    (λ (l : List BookRow). AreRowsOf c.args.place c.args.found.now c.args.sender.now (l ++ others))
    (sym c.new-rows.ensures.items) are

pub loop-finding-preserved : goal.loop-finding-preserved
loop-finding-preserved c = λ others are. subst
    (λ (l : List BookRow). AreRowsOf c.args.place c.args.found.now c.args.sender.now (l ++ others))
    (sym c.in-Ok.ensures.items)
    (row_more c.args.place c.args.found.now c.args.sender.now c.loop-finding.rows.items c.loop-finding.finding-index
    c.finding-item.result c.loop-finding.next c.in_ok-next.next c.plain_note-note.result c.as_slice.result.now
    c.in_ok-row.row c.loop-finding-test.true c.finding-item.is c.plain_note-note.ensures.note c.as_slice.ensures
    c.in_ok-row.ensures.row c.in_ok-next.ensures c.loop-finding.invariant others are)

pub returns : goal.returns
returns c =
    all_rows c.args.place c.args.found.now c.args.sender.now c.loop-finding.rows.items c.loop-finding.finding-index
    c.loop-finding.next (omega arith) c.loop-finding.invariant

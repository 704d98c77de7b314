use Rattle.desk_types.proofs.Common.{◌++◌, ◌∙◌, ap, ap₂, arith, option_to_list, sym, take, take-next}
use Rattle.line_book.specs.declared.note.Note.{Note}
use Rattle.line_doubt.specs.Sources.{unsettled_mark, unsettled_marks}
use Rattle.line_doubt.proofs.Histories.{chosen-last}
use Rattle.line_doubt.proofs.marking.unsettled_marks.Goals as goal

pub loop-note-preserved : goal.loop-note-preserved
loop-note-preserved c =
    let book = c.args.book.now in
    let i = c.loop-note.note-index in
    let n = c.note-item.result in
    c.in_ok-keep.ensures
    ∙ ap₂ (λ l o. l ++ option_to_list o) c.loop-note.invariant c.unsettled_mark-mark.ensures
    ∙ sym (ap unsettled_marks (take-next book i n (omega arith) c.note-item.is)
    ∙ chosen-last (λ (n : Note). unsettled_mark n.number n.after n.matter) (take i book) n)

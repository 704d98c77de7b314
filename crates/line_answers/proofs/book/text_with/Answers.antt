use Rattle.desk_types.proofs.Common.{[], ◌++◌, ◌∙◌, ap, append-nil, filter, if◌then◌else◌, map, subst, sym, take}
use Rattle.line_answers.proofs.RowsWanted.{rows-next}
use Rattle.line_answers.specs.Book.{book_header, entry_fields, fields_with, is_wanted, written_row}
use Rattle.line_answers.specs.Csv.{csv_text, HasWritten, record_text}
use Rattle.line_answers.proofs.book.text_with.Goals as goal

pub loop-row-init : goal.loop-row-init
loop-row-init c = subst (HasWritten c.write_header.new.writer) (sym (append-nil (record_text book_header)))
    (c.in_ok-write_header.ensures [] c.text_writer-writer.ensures)

pub loop-row-preserved : goal.loop-row-preserved
loop-row-preserved c =
    let fields = fields_with c.args.open_notes.now c.args.waiting.now in
    let wanted = is_wanted c.args.waiting.now c.args.wanted in
    let row = c.row-item.result in
    let before = take c.loop-row.row-index c.args.rows.now in
    let text = csv_text book_header (map fields (filter wanted (map written_row before))) in
    let more = rows-next written_row book_header fields wanted c.args.rows.now c.loop-row.row-index row
    c.loop-row-test.true c.row-item.is in
    let if_wanted = ap (λ w. text
    ++ (if w then record_text (entry_fields c.standing-state.result.now (written_row row)) else []))
    c.is_wanted.ensures in
    let told = ap (λ s. text
    ++ (if wanted (written_row row) then record_text (entry_fields s (written_row row)) else []))
    c.standing-state.ensures in
    subst (HasWritten c.write_if.new.writer) (if_wanted ∙ told ∙ sym more)
    (c.in_ok-write_if.ensures text c.loop-row.invariant)

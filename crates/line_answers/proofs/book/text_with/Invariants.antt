use Rattle.desk_types.proofs.Common.{filter, map, take}
use Rattle.line_answers.specs.Book.{book_header, fields_with, is_wanted, written_row}
use Rattle.line_answers.specs.Csv.{csv_text, HasWritten}
use Rattle.line_answers.proofs.book.text_with.Given as goal

abbrev pub invariant-loop-row : goal.invariant-loop-row
invariant-loop-row l = HasWritten l.writer (csv_text book_header
    (map (fields_with l.open_notes l.waiting)
    (filter (is_wanted l.waiting l.wanted) (map written_row (take l.row-index l.rows)))))

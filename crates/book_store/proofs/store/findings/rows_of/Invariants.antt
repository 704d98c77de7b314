use Rattle.desk_types.proofs.Common.{◌++◌, drop, List}
use Rattle.line_book.specs.declared.row.BookRow.{BookRow}
use Rattle.book_store.specs.Findings.{AreRowsOf}
use Rattle.book_store.proofs.store.findings.rows_of.Given as goal

-- The rows of the other findings are missing.
abbrev pub invariant-loop-finding : goal.invariant-loop-finding
invariant-loop-finding l = (others : List BookRow)
    → AreRowsOf l.next (drop l.finding-index l.found) l.sender others
    → AreRowsOf l.fn.place l.found l.sender (l.rows.items ++ others)

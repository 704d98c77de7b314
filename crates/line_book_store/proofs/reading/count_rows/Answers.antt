use Rattle.line_book_store.proofs.Counts.{finds_count_in}
use Rattle.line_book_store.proofs.reading.count_rows.Goals as goal

pub returns-clause-counted : goal.returns-clause-counted
returns-clause-counted g c clean = finds_count_in g.S.Store c.args.conn.now _ (c.in_ok-rows.ensures.shown clean) c.count_of.result (rw c.as_slice.ensures.value at c.count_of.ensures.row) c.count_of.ensures.below

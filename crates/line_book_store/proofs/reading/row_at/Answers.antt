use Rattle.line_book_store.proofs.Found.{finds_row}
use Rattle.line_book_store.proofs.reading.row_at.Goals as goal

pub returns-clause-found : goal.returns-clause-found
returns-clause-found g c clean = finds_row g.S.Store c.args.number c.args.conn.now _ (rw c.params-to_sql.ensures at (c.in_ok-rows.ensures.shown clean)) c.at_most_one.result c.at_most_one.ensures.ok

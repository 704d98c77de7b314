use Rattle.line_tables.proofs.Finds.{finds_row}
use Rattle.line_tables.proofs.reading.row_at.Goals as goal

pub returns-clause-found : goal.returns-clause-found
returns-clause-found g c clean = finds_row g.S.Store c.args.conn.now c.args.number _ c.at_most_one.result c.at_most_one.ensures.ok (rw c.params-to_sql.ensures at (c.in_ok-rows.ensures.shown clean))

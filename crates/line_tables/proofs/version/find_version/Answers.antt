use Rattle.line_tables.proofs.Finds.{finds_version}
use Rattle.line_tables.proofs.version.find_version.Goals as goal

pub returns-clause-read : goal.returns-clause-read
returns-clause-read g c clean = finds_version g.S.Store c.args.conn.now _ c.version_in.result (c.in_ok-rows.ensures.shown clean) (rw c.as_slice.ensures.value at c.version_in.ensures)

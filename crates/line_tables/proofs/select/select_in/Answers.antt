use Rattle.line_tables.proofs.Common.{state}
use Rattle.line_tables.proofs.Keeps.{query_keeps}
use Rattle.line_tables.proofs.select.select_in.Goals as goal

pub returns-clause-kept : goal.returns-clause-kept
returns-clause-kept g c clean within =
    query_keeps _ _ (state g.S.Store c.args.tx.now.conn.now) (state g.S.Store c.query_all.new.self.conn.now) c.query_all.result within (c.query_all.ensures.ok clean) (c.query_all.ensures.err clean)

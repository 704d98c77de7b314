use Rattle.desk_types.proofs.Common.{IfOk-weaker}
use Rattle.line_tables.proofs.Rising.{tells_found}
use Rattle.line_tables.proofs.rowids.is_found_apart.Goals as goal

pub returns-in-Two-clause-found : goal.returns-in-Two-clause-found
returns-in-Two-clause-found g c clean = rw c.in-Two.is (IfOk-weaker c.shows_rising.result _ _ (λ b told. tells_found g.S.Store c.args.conn.now b told) (c.shows_rising.ensures.shown clean))

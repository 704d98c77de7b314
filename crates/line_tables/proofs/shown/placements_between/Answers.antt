use Rattle.desk_types.proofs.Common.{IfOk-weaker}
use Rattle.line_tables.proofs.Between.{shows-between}
use Rattle.line_tables.proofs.shown.placements_between.Goals as goal

pub returns-clause-shown : goal.returns-clause-shown
returns-clause-shown g c clean = IfOk-weaker c.select.result _ _ (λ rows. shows-between g.S.Store c.args.conn.now _ rows.items) (c.select.ensures.shown clean)

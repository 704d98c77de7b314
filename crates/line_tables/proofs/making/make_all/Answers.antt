use Rattle.desk_types.proofs.Common.{arith, on_ok_weaker}
use Rattle.line_tables.proofs.Common.{state}
use Rattle.line_tables.proofs.Creates.{makes_all}
use Rattle.line_tables.proofs.making.make_all.Goals as goal

pub returns-clause-made : goal.returns-clause-made
returns-clause-made g c clean =
    on_ok_weaker c.run.result (λ ran. makes_all c.args.greatest (state g.S.Store c.args.tx.now.conn.now) (state g.S.Store c.make_tables.new.tx.conn.now) (state g.S.Store c.run.new.tx.conn.now)
    (c.in_ok-make_tables.ensures.made (omega (arith, c.run.ensures.within.survives.clean))) (rw c.params-to_sql.ensures at ran)) (c.run.ensures.ran clean)

use Rattle.desk_types.proofs.Common.{arith, on_ok_weaker}
use Rattle.line_tables.proofs.Common.{state}
use Rattle.line_tables.proofs.Migration.{migrates}
use Rattle.line_tables.proofs.migrating.change_version.Goals as goal

pub returns-clause-done : goal.returns-clause-done
returns-clause-done g c clean =
    on_ok_weaker c.run.result (λ ran. migrates (state g.S.Store c.args.tx.now.conn.now) (state g.S.Store c.make_found.new.tx.conn.now) (state g.S.Store c.run.new.tx.conn.now)
    (c.in_ok-make_found.ensures.made (omega (arith, c.run.ensures.within.survives.clean))) ran) (c.run.ensures.ran clean)

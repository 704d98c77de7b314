use Rattle.desk_types.proofs.Common.{arith, on_ok_weaker}
use Rattle.line_tables.proofs.Common.{HasCleanDisk, state}
use Rattle.line_tables.proofs.RowPuts.{alternate_put}
use Rattle.line_tables.proofs.setup.put_alternate.Goals as goal

pub returns-clause-done : goal.returns-clause-done
returns-clause-done g c clean =
    let early : HasCleanDisk (state g.S.Store c.run.new.tx.conn.now) = omega (arith, c.run-2.ensures.within.survives.clean) in
    on_ok_weaker c.run-2.result (λ ran. alternate_put c.args.part.now c.args.alternate.now (state g.S.Store c.args.tx.now.conn.now) (state g.S.Store c.run.new.tx.conn.now) (state g.S.Store c.run-2.new.tx.conn.now) (rw (c.text.ensures, c.text-2.ensures) at (c.in_ok-run.ensures.ran early)) (rw (c.text-3.ensures, c.text-4.ensures) at ran)) (c.run-2.ensures.ran clean)

use Rattle.desk_types.proofs.Common.{on_ok_weaker}
use Rattle.line_tables.proofs.Common.{state}
use Rattle.line_tables.proofs.RowPuts.{bound_as, mount_put}
use Rattle.line_tables.proofs.floor.put_mount.Goals as goal

pub returns-clause-done : goal.returns-clause-done
returns-clause-done g c clean =
    on_ok_weaker c.run.result (λ ran. mount_put c.args.row.now (state g.S.Store c.args.tx.now.conn.now) (state g.S.Store c.run.new.tx.conn.now)
    (rw (bound_as _ _ c.in_ok-mount_values.ensures.ok) at ran)) (c.run.ensures.ran clean)

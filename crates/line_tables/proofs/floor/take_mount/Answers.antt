use Rattle.desk_types.proofs.Common.{on_ok_weaker}
use Rattle.line_tables.proofs.Common.{state}
use Rattle.line_tables.proofs.RowPuts.{mount_taken}
use Rattle.line_tables.proofs.floor.take_mount.Goals as goal

pub returns-clause-done : goal.returns-clause-done
returns-clause-done g c clean =
    on_ok_weaker c.run.result (λ ran. mount_taken c.args.reel.now (state g.S.Store c.args.tx.now.conn.now) (state g.S.Store c.run.new.tx.conn.now) (rw c.text.ensures at ran)) (c.run.ensures.ran clean)

use Rattle.desk_types.proofs.Common.{on_ok_weaker}
use Rattle.line_tables.proofs.Common.{state}
use Rattle.line_tables.proofs.Placing.{placement_put}
use Rattle.line_tables.proofs.pieces.put_placement.Goals as goal

pub returns-clause-done : goal.returns-clause-done
returns-clause-done g c clean =
    on_ok_weaker c.run.result (λ ran. placement_put c.args.row.now (state g.S.Store c.args.tx.now.conn.now) (state g.S.Store c.run.new.tx.conn.now) (rw (c.as_slice.ensures.value, c.in_ok-add_values.ensures.ok, c.new-values.ensures.items) at ran)) (c.run.ensures.ran clean)

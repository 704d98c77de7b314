use Rattle.desk_types.proofs.Common.{on_ok_weaker}
use Rattle.line_tables.proofs.Common.{state}
use Rattle.line_tables.proofs.RowPuts.{bound_as, reel_put}
use Rattle.line_tables.proofs.floor.put_reel.Goals as goal

pub returns-clause-done : goal.returns-clause-done
returns-clause-done g c clean =
    on_ok_weaker c.change_or_put.result (λ did. reel_put g.S.Store c.args.row.now (state g.S.Store c.args.tx.now.conn.now) (state g.S.Store c.change_or_put.new.tx.conn.now)
    (rw (bound_as _ _ c.in_ok-reel_values.ensures.ok) at did)) (c.change_or_put.ensures.done clean)

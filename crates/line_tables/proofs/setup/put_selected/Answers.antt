use Rattle.desk_types.proofs.Common.{on_ok_weaker}
use Rattle.line_tables.proofs.Common.{state}
use Rattle.line_tables.proofs.RowPuts.{selected_put}
use Rattle.line_tables.proofs.setup.put_selected.Goals as goal

pub returns-clause-done : goal.returns-clause-done
returns-clause-done g c clean =
    on_ok_weaker c.change_or_put.result (λ did. selected_put g.S.Store c.args.machine.now c.args.product.now (state g.S.Store c.args.tx.now.conn.now) (state g.S.Store c.change_or_put.new.tx.conn.now)
    (rw (c.text.ensures, c.text-2.ensures) at did)) (c.change_or_put.ensures.done clean)

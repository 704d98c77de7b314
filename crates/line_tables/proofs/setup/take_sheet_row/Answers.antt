use Rattle.desk_types.proofs.Common.{on_ok_weaker}
use Rattle.line_tables.proofs.Common.{state}
use Rattle.line_tables.proofs.RowPuts.{sheet_row_taken}
use Rattle.line_tables.proofs.setup.take_sheet_row.Goals as goal

pub returns-clause-done : goal.returns-clause-done
returns-clause-done g c clean =
    on_ok_weaker c.run.result (λ ran. sheet_row_taken c.args.product.now c.args.machine.now c.args.place (state g.S.Store c.args.tx.now.conn.now) (state g.S.Store c.run.new.tx.conn.now)
    (rw (c.text.ensures, c.text-2.ensures, c.in_ok-int.ensures) at ran)) (c.run.ensures.ran clean)

use Rattle.desk_types.proofs.Common.{on_ok_weaker}
use Rattle.line_tables.proofs.Common.{state}
use Rattle.line_tables.proofs.RowPuts.{sheet_row_put}
use Rattle.line_tables.proofs.setup.put_sheet_row.Goals as goal

pub returns-clause-done : goal.returns-clause-done
returns-clause-done g c clean =
    on_ok_weaker c.run.result (λ ran. sheet_row_put c.args.product.now c.args.machine.now c.args.place c.args.row.now (state g.S.Store c.args.tx.now.conn.now) (state g.S.Store c.run.new.tx.conn.now)
    (rw (c.text.ensures, c.text-2.ensures, c.in_ok-int.ensures, c.text-3.ensures, c.text-4.ensures, c.as_slice-2.ensures.value, c.in_ok-designators.ensures, c.as_slice.ensures.value) at ran)) (c.run.ensures.ran clean)

use Rattle.desk_types.proofs.Common.{on_ok_weaker}
use Rattle.line_tables.proofs.Common.{state}
use Rattle.line_tables.proofs.Puts.{puts_accepted}
use Rattle.line_tables.proofs.writing.put_accepted.Goals as goal

pub returns-clause-done : goal.returns-clause-done
returns-clause-done g c clean =
    on_ok_weaker c.run.result (λ ran. puts_accepted c.args.row.now (state g.S.Store c.args.tx.now.conn.now) (state g.S.Store c.run.new.tx.conn.now)
    (rw (c.params-to_sql.ensures, c.params-to_sql-2.ensures, c.params-to_sql-3.ensures, c.params-to_sql-4.ensures, c.params-to_sql-5.ensures, c.params-to_sql-6.ensures, c.params-to_sql-7.ensures) at ran)) (c.run.ensures.ran clean)

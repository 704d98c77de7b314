use Rattle.desk_types.proofs.Common.{on_ok_weaker}
use Rattle.line_tables.proofs.Common.{state}
use Rattle.line_book_store.proofs.PutEntries.{notes_entry}
use Rattle.line_book_store.proofs.noting.put_entry.Goals as goal

pub returns-clause-done : goal.returns-clause-done
returns-clause-done g c clean =
    on_ok_weaker c.run.result (λ ran. notes_entry c.args.entry.now (state g.S.Store c.args.tx.now.conn.now) (state g.S.Store c.run.new.tx.conn.now)
    (rw (c.params-to_sql.ensures, c.params-to_sql-2.ensures, c.params-to_sql-3.ensures, c.params-to_sql-4.ensures, c.params-to_sql-5.ensures, c.params-to_sql-6.ensures, c.params-to_sql-7.ensures, c.params-to_sql-8.ensures, c.params-to_sql-9.ensures, c.params-to_sql-10.ensures, c.params-to_sql-11.ensures, c.params-to_sql-12.ensures) at ran)) (c.run.ensures.ran clean)

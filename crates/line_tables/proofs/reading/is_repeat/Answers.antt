use Rattle.desk_types.proofs.Common.{◌==◌, ◌≡◌, length, rules}
use Rattle.line_tables.proofs.Finds.{finds_before}
use Rattle.line_tables.proofs.reading.is_repeat.Goals as goal

pub returns-clause-found : goal.returns-clause-found
returns-clause-found g c clean =
    let is : c.is_empty.result ≡ (length c.in_ok-rows.rows.items == 0) = search rules in
    finds_before g.S.Store c.args.uid.now c.args.number c.args.conn.now _ c.is_empty.result (rw (c.params-to_sql.ensures, c.params-to_sql-2.ensures) at (c.in_ok-rows.ensures.shown clean)) is

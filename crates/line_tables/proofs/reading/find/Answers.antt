use Rattle.desk_types.proofs.Common.{[], ◌∷◌, ◌≡◌, rules}
use Rattle.line_tables.{proofs.Finds.finds_no_uid, proofs.Finds.finds_one_uid, specs.Rows.columns_of}
use Rattle.line_tables.proofs.reading.find.Goals as goal

pub returns-in_ok-accepted_of-in-Some-clause-found : goal.returns-in_ok-accepted_of-in-Some-clause-found
returns-in_ok-accepted_of-in-Some-clause-found g c clean =
    let is : c.in_ok-rows.rows.items ≡ columns_of c.in_ok-accepted_of-in-Some.field-0 ∷ [] = search rules in
    finds_one_uid g.S.Store c.args.conn.now c.args.uid.now _ _ is (rw c.params-to_sql.ensures at (c.in_ok-rows.ensures.shown clean))

pub returns-in-None-clause-found : goal.returns-in-None-clause-found
returns-in-None-clause-found g c clean =
    let is : c.in_ok-rows.rows.items ≡ [] = search rules in
    finds_no_uid g.S.Store c.args.conn.now c.args.uid.now _ is (rw c.params-to_sql.ensures at (c.in_ok-rows.ensures.shown clean))

use Rattle.desk_types.proofs.Common.{◌∙◌, ◌≤◌, ap, length, rules, take}
use Rattle.line_tables.proofs.Common.{ArePlacing, bound, row_edits, state}
use Rattle.line_tables.proofs.Placing.{eight_first}
use Rattle.line_tables.proofs.writing.put_first.Goals as goal

pub returns-in-Some-clause-done : goal.returns-in-Some-clause-done
returns-in-Some-clause-done g c clean =
    let values = bound c.in-Some.values.items in
    let got : (8 ≤ length c.args.edits.now) × ArePlacing (row_edits (take 8 c.args.edits.now)) values = search rules in
    eight_first c.args.edits.now values (state g.S.Store c.args.tx.now.conn.now) (state g.S.Store c.put_eight.new.tx.conn.now) got.0 got.1 (λ rows eight are. c.in_ok-put_eight.ensures.done clean rows eight (ap bound c.as_slice.ensures.value ∙ are))

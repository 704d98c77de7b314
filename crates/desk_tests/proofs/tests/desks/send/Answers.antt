use Rattle.desk_types.proofs.Common.{◌∙◌, accept, ap, arith, basis, with_edits}
use Rattle.desk_laws.proofs.Common.{Two}
use Rattle.desk_tests.proofs.tests.desks.send.Goals as goal

pub returns-in_ok-settle-in-Ok : goal.returns-in_ok-settle-in-Ok
returns-in_ok-settle-in-Ok g c =
    let one = c.requires.one_list in
    let now = basis Two one.list in
    let stands = c.in_ok-settle-in-Ok.ensures now one.stands in
    record {
      one_list = record {
        list = accept one.list c.in-Ok.change.stamped;
        stands = stands;
        tables = record {
          judged = g.met.D.Desk.is_judged _ _ stands;
          tables = rw c.as_slice.ensures at c.in_ok-apply-in-Ok.ensures ∙ ap (with_edits c.in_ok-edits-in-Ok.edits) one.tables.tables ∙ c.in_ok-edits-in-Ok.ensures.lead now one.stands one.next;
        };
        next = omega (arith, one.next);
        bound = omega (arith, c.if-number-gt10100.false);
      };
    }

use Rattle.desk_types.proofs.Common.{arith, basis}
use Rattle.desk_laws.proofs.Common.{Two}
use Rattle.desk_tests.proofs.tests.desks.made_again.Goals as goal

pub restore-requires : goal.restore-requires
restore-requires c =
    let one = c.in_ok-desk.ensures.one_list in
    (one.list, one.tables, c.minute.ensures (basis Two one.list) one.stands)

pub returns : goal.returns
returns c =
    let one = c.in_ok-desk.ensures.one_list in
    let minute = c.minute.ensures (basis Two one.list) one.stands in
    (basis Two one.list, c.in_ok-restored.ensures one.list one.tables minute, omega (arith, one.next, one.bound))

use Rattle.desk_types.proofs.Common.{arith, length-map, map, nat_tests, rules}
use Rattle.cfx_profile.proofs.Items.{items_in-of}
use Rattle.serde_json.specs.View.{view}
use Rattle.cfx_profile.proofs.lists.items_in.Goals as goal

pub returns-then-len-gt-LONGEST_LIST-clause-err : goal.returns-then-len-gt-LONGEST_LIST-clause-err
returns-then-len-gt-LONGEST_LIST-clause-err c =
    let items = c.in-Some.items.now.items in
    let judged = items_in-of c.args.member (view c.args.body.now) (map view items) (search rules) in
    let count = length-map items view in
    grind (arith, nat_tests)

pub returns-clause-ok : goal.returns-clause-ok
returns-clause-ok c =
    let items = c.in-Some.items.now.items in
    let judged = items_in-of c.args.member (view c.args.body.now) (map view items) (search rules) in
    let count = length-map items view in
    grind (arith, nat_tests)

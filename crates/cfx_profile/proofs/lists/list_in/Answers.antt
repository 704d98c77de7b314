use Rattle.desk_types.proofs.Common.{◌∙◌, ◌≡◌, arith, length-map, map, Ok, rules}
use Rattle.cfx_profile.{proofs.Items.length-each, specs.Lists.each}
use Rattle.serde_json.specs.View.{view}
use Rattle.cfx_profile.proofs.lists.list_in.Goals as goal

pub unreachable-requires : goal.unreachable-requires
unreachable-requires g c =
    let items = c.in_ok-items.items.now in
    let read : each g.T.Element.said (map view items) ≡ Ok c.in_ok-found.found = search rules in
    let count = length-each g.T.Element.said (map view items) c.in_ok-found.found read ∙ length-map items view in
    let range = c.in_ok-items.ensures.count in
    grind arith

use Rattle.desk_types.proofs.Common.{◌≡◌, map, Ok, take}
use Rattle.cfx_profile.specs.Lists.{each}
use Rattle.serde_json.specs.View.{view}
use Rattle.cfx_profile.proofs.lists.each.Given as goal

abbrev pub invariant-loop-item : goal.invariant-loop-item
invariant-loop-item g l = each g.T.Element.said (map view (take l.item-index l.items)) ≡ Ok l.found.items

use Rattle.desk_types.proofs.Common.{◌<◌, ◌∙◌, ap, arith, get_or, length, sym, take-next}
use Rattle.std.proofs.lemmas.List.{get_or-map}
use Rattle.desk_types.specs.declared.placement.Placement.{Placement}
use Rattle.line_doubt.specs.declared.runs.Spot.{Spot}
use Rattle.line_doubt.specs.Runs.{spot_of}
use Rattle.line_doubt.proofs.Lists.{mapped-next}
use Rattle.line_doubt.proofs.splices.spots_of.Goals as goal

pub loop-i-preserved : goal.loop-i-preserved
loop-i-preserved c = λ r are.
    let placed = c.args.placed.now in
    let i = c.loop-i.i in
    let p = c.index-placed-i.result in
    let inside : i < length placed = omega arith in
    let at : Placement → Spot = λ p. spot_of p (r p) in
    mapped-next at placed i p _ _ _ (take-next placed i p inside c.index-placed-i.is) (c.loop-i.invariant r are)
    (ap (spot_of p) (ap (λ l. get_or l i 0) are ∙ get_or-map r placed i p 0 inside ∙ ap r (sym c.index-placed-i.is)))
    c.in_ok-push.ensures.items

use Rattle.desk_types.proofs.Common.{◌-◌, ◌<◌, ◌∙◌, ap, ap₂, arith, get_or, length, sym, take-next, ℕ}
use Rattle.std.proofs.lemmas.List.{get_or-map}
use Rattle.desk_types.specs.declared.placement.Placement.{Placement}
use Rattle.line_doubt.specs.declared.runs.Spot.{Spot}
use Rattle.line_doubt.specs.Runs.{spot_from_end}
use Rattle.line_doubt.proofs.Lists.{mapped-next}
use Rattle.line_doubt.proofs.splices.spots_from_end.Goals as goal

pub loop-i-preserved : goal.loop-i-preserved
loop-i-preserved c = λ r are.
    let placed = c.args.placed.now in
    let i = c.loop-i.i in
    let p = c.index-placed-i.result in
    let inside : i < length placed = omega arith in
    let at : Placement → Spot = λ p. spot_from_end c.args.commands p (r p) in
    let spot : ℕ → ℕ → Spot = λ own kept.
    record { machine = p.machine; slot = p.slot; reel = p.reel; own = own; kept = kept } in
    mapped-next at placed i p _ _ _ (take-next placed i p inside c.index-placed-i.is) (c.loop-i.invariant r are)
    (ap₂ spot c.saturating_sub-own.ensures (c.saturating_sub-kept.ensures ∙ ap (λ n. c.args.commands - n)
    (ap (λ l. get_or l i 0) are ∙ get_or-map r placed i p 0 inside ∙ ap r (sym c.index-placed-i.is))))
    c.in_ok-push.ensures.items

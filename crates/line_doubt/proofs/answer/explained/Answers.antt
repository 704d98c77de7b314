use Rattle.desk_types.proofs.Common.{◌++◌, ◌<◌, ◌∙◌, ap, ap₂, arith, false, filter_map, get_or, length, None, option_to_list, Option, sym}
use Rattle.desk_types.proofs.Common.{take, take-next}
use Rattle.std.proofs.lemmas.List.{get_or-map}
use Rattle.desk_types.specs.declared.placement.Placement.{Placement}
use Rattle.line_doubt.specs.declared.reason.Doubt.{Doubt}
use Rattle.line_doubt.specs.Reasons.{doubt_of, first_reason}
use Rattle.line_doubt.proofs.Explaining.{same-reason}
use Rattle.line_doubt.proofs.Histories.{chosen-last}
use Rattle.line_doubt.proofs.answer.explained.Goals as goal

pub loop-i-preserved : goal.loop-i-preserved
loop-i-preserved c = λ f g h k a b d e.
    let placed = c.args.placed.now in
    let i = c.loop-i.i in
    let p = c.index-placed-i.result in
    let inside : i < length placed = omega arith in
    let at : Placement → Option Doubt = λ p. doubt_of p (first_reason (f p) (g p) (h p) (k p)) in
    c.in_ok-keep.ensures
    ∙ ap₂ (λ l r. l ++ option_to_list (doubt_of p r)) (c.loop-i.invariant f g h k a b d e)
    (c.first_reason-reason.ensures ∙ same-reason _ (f p) _ (g p) _ (h p) _ (k p)
    (ap (λ l. get_or l i None) a ∙ get_or-map f placed i p None inside
    ∙ ap f (sym c.index-placed-i.is))
    (ap (λ l. get_or l i None) b ∙ get_or-map g placed i p None inside
    ∙ ap g (sym c.index-placed-i.is))
    (ap (λ l. get_or l i None) d ∙ get_or-map h placed i p None inside
    ∙ ap h (sym c.index-placed-i.is))
    (ap (λ l. get_or l i false) e ∙ get_or-map k placed i p false inside ∙ ap k (sym c.index-placed-i.is)))
    ∙ sym (ap (filter_map at) (take-next placed i p inside c.index-placed-i.is)
    ∙ chosen-last at (take i placed) p)

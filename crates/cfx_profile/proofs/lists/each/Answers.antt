use Rattle.desk_types.proofs.Common.{[], ◌++◌, ◌+◌, ◌∙◌, ◌∷◌, ◌≡◌, ◌≢◌, ap, append_assoc, drop, Err, map}
use Rattle.desk_types.proofs.Common.{map-append, Ok, rules, sym, take, take-append-drop, take_more}
use Rattle.cfx_profile.proofs.{Faults.IsSaid-fault, Items.each-fault, Items.each-more}
use Rattle.cfx_profile.specs.{Lists.each, declared.fault.MessageFault.TheVariants.NoMemory}
use Rattle.serde_json.specs.View.{view}
use Rattle.cfx_profile.proofs.lists.each.Goals as goal

pub loop-item-preserved : goal.loop-item-preserved
loop-item-preserved g c =
    let items = c.args.items.now in
    let i = c.loop-item.item-index in
    let item = c.item-item.result in
    let more = take_more items i item c.loop-item-test.true in
    let read : g.T.Element.said (view item) ≡ Ok c.in_ok-element.element = search rules in
    let pushed : c.put.new.found.items ≡ c.loop-item.found.items ++ c.in_ok-element.element ∷ [] = search rules in
    rw (more, sym c.item-item.is, map-append view (take i items) (item ∷ []), pushed) (each-more g.T.Element.said (map view (take i items)) (view item) _ _ c.loop-item.invariant read)

pub returns-in_err-element : goal.returns-in_err-element
returns-in_err-element g c =
    let items = c.args.items.now in
    let i = c.loop-item.item-index in
    let item = c.item-item.result in
    let fault = c.in_err-element.field-0.0 in
    let more = take_more items i item c.loop-item-test.true in
    let split : items ≡ take i items ++ item ∷ drop (i + 1) items =
    sym (take-append-drop (i + 1) items) ∙ ap (λ front. front ++ drop (i + 1) items) (more ∙ ap (λ x. take i items ++ x ∷ []) (sym c.item-item.is)) ∙ append_assoc (take i items) (item ∷ []) (drop (i + 1) items) in
    let whole : fault ≢ NoMemory → each g.T.Element.said (map view items) ≡ Err fault =
    λ other. ap (λ xs. each g.T.Element.said (map view xs)) split ∙ ap (each g.T.Element.said) (map-append view (take i items) (item ∷ drop (i + 1) items)) ∙ each-fault g.T.Element.said (map view (take i items)) (view item) _ _ _ c.loop-item.invariant (c.in_err-element.ensures other) in
    IsSaid-fault _ _ fault whole c.from_residual.ensures.1

use Rattle.desk_types.proofs.Common.{[], ◌++◌, ◌∙◌, ◌∷◌, ap, map, map-append, subst, sym, take, take-next}
use Rattle.desk_types.proofs.Common.{take_of}
use Rattle.desk_types.specs.Row.{IsRowIfAny}
use Rattle.judging.proofs.takes.takes_for.Goals as goal

pub loop-pick-preserved : goal.loop-pick-preserved
loop-pick-preserved g c = λ H stands.
    let picks = c.args.picks.now in
    let i = c.loop-pick.pick-index in
    let p = c.pick-item.result in
    let row = subst (IsRowIfAny H p.reel) c.unwrap-row.ensures (c.reel_row.ensures H stands) in
    c.in_ok-put_take.ensures H row (c.requires.by.1 H stands)
    ∙ ap (λ ts. ts ++ take_of H c.args.minute p ∷ []) (c.loop-pick.invariant H stands)
    ∙ sym (ap (map (take_of H c.args.minute)) (take-next picks i p c.loop-pick-test.true c.pick-item.is) ∙ map-append (take_of H c.args.minute) (take i picks) (p ∷ []))

use Rattle.desk_types.proofs.Common.{[], ◌++◌, ◌+◌, ◌<◌, ◌∙◌, ◌∷◌, ◌≡◌, ap, ap₂, arith, get_or, length, map}
use Rattle.desk_types.proofs.Common.{suc, sym, take, take_all}
use Rattle.line_doubt.specs.Marks.{number_above}
use Rattle.line_doubt.proofs.Lists.{joined-next, mapped-long}
use Rattle.line_doubt.proofs.comparing.numbers_above.Goals as goal

pub loop-i-preserved : goal.loop-i-preserved
loop-i-preserved c = λ f g placed first second.
    let i = c.loop-i.i in
    let many = mapped-long f placed c.args.marks.now first in
    let lt : i < length placed = omega (arith, many, c.loop-i-test.true) in
    let next : suc i ≡ i + 1 = omega arith in
    let m = c.index-marks-i.result in
    c.in_ok-push.ensures.items
    ∙ ap₂ (λ l o. l ++ o ∷ []) (c.loop-i.invariant f g placed first second)
    (c.number_above.ensures ∙ ap (λ o. number_above o (get_or c.args.floors.now i 0)) c.index-marks-i.is)
    ∙ ap₂ (λ a b. map (λ p. number_above (f p) (g p)) (take i placed)
    ++ number_above (get_or a i m) (get_or b i 0) ∷ []) first second
    ∙ sym (joined-next number_above f g placed i m 0 lt)
    ∙ ap (λ k. map (λ p. number_above (f p) (g p)) (take k placed)) next

pub returns : goal.returns
returns c = λ f g placed first second.
    let many = mapped-long f placed c.args.marks.now first in
    c.loop-i.invariant f g placed first second
    ∙ ap (map (λ p. number_above (f p) (g p))) (take_all c.loop-i.i placed (omega (arith, many, c.loop-i-test.false)))

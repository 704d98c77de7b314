use Rattle.desk_types.proofs.Common.{[], ◌++◌, ◌+◌, ◌<◌, ◌∙◌, ◌∷◌, ◌≡◌, ap, ap₂, arith, get_or, length, map, None, Option}
use Rattle.desk_types.proofs.Common.{option_or, suc, sym, take, take_all, ℕ}
use Rattle.line_doubt.proofs.Lists.{joined-next, mapped-long}
use Rattle.line_doubt.proofs.comparing.first_of.Goals as goal

pub loop-i-preserved : goal.loop-i-preserved
loop-i-preserved c = λ f g placed first second.
    let i = c.loop-i.i in
    let many = mapped-long f placed c.args.some.now first in
    let lt : i < length placed = omega (arith, many, c.loop-i-test.true) in
    let next : suc i ≡ i + 1 = omega arith in
    let join : Option ℕ → Option ℕ → Option ℕ = λ a b. option_or a b in
    c.in_ok-push.ensures.items
    ∙ ap₂ (λ l o. l ++ o ∷ []) (c.loop-i.invariant f g placed first second) c.first.ensures
    ∙ ap₂ (λ a b. map (λ p. join (f p) (g p)) (take i placed) ++ join (get_or a i None) (get_or b i None) ∷ [])
    first second
    ∙ sym (joined-next join f g placed i None None lt)
    ∙ ap (λ k. map (λ p. join (f p) (g p)) (take k placed)) next

pub returns : goal.returns
returns c = λ f g placed first second.
    let many = mapped-long f placed c.args.some.now first in
    let join : Option ℕ → Option ℕ → Option ℕ = λ a b. option_or a b in
    c.loop-i.invariant f g placed first second
    ∙ ap (map (λ p. join (f p) (g p))) (take_all c.loop-i.i placed (omega (arith, many, c.loop-i-test.false)))

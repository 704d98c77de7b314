use Rattle.desk_types.proofs.Common.{[], ◌++◌, ◌+◌, ◌<◌, ◌∙◌, ◌∷◌, ◌≡◌, ◌||◌, ap, ap₂, arith, Bool, false, get_or, length, length-append}
use Rattle.desk_types.proofs.Common.{map, suc, sym, take, take_all}
use Rattle.line_doubt.proofs.Lists.{joined-next, mapped-long}
use Rattle.line_doubt.proofs.comparing.either.Goals as goal

pub loop-i-preserved : goal.loop-i-preserved
loop-i-preserved c =
    let i = c.loop-i.i in
    let join : Bool → Bool → Bool = λ a b. a || b in
    let old = c.loop-i.found.items in
    let long : length (old ++ c.is_either.result ∷ []) ≡ i + 1 =
    omega (arith, length-append old (c.is_either.result ∷ []), c.loop-i.invariant.each) in
    record {
      each = ap length c.in_ok-push.ensures.items ∙ long;
      flags = λ f g placed first second.
          let many = mapped-long f placed c.args.some.now first in
          let lt : i < length placed = omega (arith, many, c.loop-i-test.true) in
          let next : suc i ≡ i + 1 = omega arith in
          c.in_ok-push.ensures.items
          ∙ ap₂ (λ l b. l ++ b ∷ []) (c.loop-i.invariant.flags f g placed first second) c.is_either.ensures
          ∙ ap₂ (λ a b. map (λ p. join (f p) (g p)) (take i placed) ++ join (get_or a i false)
          (get_or b i false) ∷ []) first second
          ∙ sym (joined-next join f g placed i false false lt)
          ∙ ap (λ k. map (λ p. join (f p) (g p)) (take k placed)) next;
    }

pub returns-clause-flags : goal.returns-clause-flags
returns-clause-flags c = λ f g placed first second.
    let many = mapped-long f placed c.args.some.now first in
    let join : Bool → Bool → Bool = λ a b. a || b in
    c.loop-i.invariant.flags f g placed first second
    ∙ ap (map (λ p. join (f p) (g p))) (take_all c.loop-i.i placed (omega (arith, many, c.loop-i-test.false)))

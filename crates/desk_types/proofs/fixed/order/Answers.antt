use Rattle.desk_types.proofs.Common.{◌+◌, ◌∙◌, ◌≤◌, arith, length}
use Rattle.desk_types.proofs.EightBytes.{alike, apart}
use Rattle.desk_types.proofs.fixed.order.Goals as goal

pub returns-then-x-y : goal.returns-then-x-y
returns-then-x-y c =
    let inside : c.loop-at.at + 8 ≤ length c.args.a.now = omega (arith, c.loop-at.invariant.whole, c.loop-at-test.true, c.requires.whole_words) in
    c.cmp.ensures
    ∙ apart c.loop-at.at c.args.a.now c.args.b.now inside (omega (arith, inside, c.requires.one_width)) (λ i. (c.type_inv.a i).fits) (λ i. (c.type_inv.b i).fits) _ _
    c.word-x.ensures c.word-y.ensures c.if-x-y.true c.loop-at.invariant.rest

pub loop-at-preserved : goal.loop-at-preserved
loop-at-preserved c =
    let inside : c.loop-at.at + 8 ≤ length c.args.a.now = omega (arith, c.loop-at.invariant.whole, c.loop-at-test.true, c.requires.whole_words) in
    record {
      whole = omega (arith, c.loop-at.invariant.whole);
      inside = inside;
      rest = alike c.loop-at.at c.args.a.now c.args.b.now inside (omega (arith, inside, c.requires.one_width)) (λ i. (c.type_inv.a i).fits) (λ i. (c.type_inv.b i).fits) _ _
          c.word-x.ensures c.word-y.ensures c.if-x-y.false c.loop-at.invariant.rest;
    }

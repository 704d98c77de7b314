use Rattle.desk_types.proofs.Common.{◌∙◌, ◌≡◌, arith, length, refl, rules, sym}
use Rattle.chain_check.proofs.EqualLists.{gets-same}
use Rattle.std.specs.List.{slice_get}
use borrow.Author.Count.{below_more}
use Rattle.chain_check.proofs.tapes.same_tape.Goals as goal

pub loop-i-preserved : goal.loop-i-preserved
loop-i-preserved g c =
    let xs = g.F.Facts.reels_on c.args.old.now c.args.machine.now c.args.slot.now in
    let ys = g.F.Facts.reels_on c.args.new.now c.args.machine.now c.args.slot.now in
    let one : c.reel_at.result ≡ c.reel_at-in-loop-i.result = search rules in
    below_more (λ k. slice_get xs k ≡ slice_get ys k) c.loop-i.i c.loop-i.invariant (sym c.reel_at.ensures ∙ one ∙ c.reel_at-in-loop-i.ensures)

pub returns : goal.returns
returns g c =
    let xs = g.F.Facts.reels_on c.args.old.now c.args.machine.now c.args.slot.now in
    let ys = g.F.Facts.reels_on c.args.new.now c.args.machine.now c.args.slot.now in
    let old = c.reel_count-count.ensures in
    let new = c.reel_count.ensures in
    let lengths : length xs ≡ length ys = omega (arith, old, new, c.if-count-reel_count.false) in
    (λ _. gets-same xs ys lengths (λ k lt. c.loop-i.invariant k (omega (arith, lt, old, c.loop-i-test.false))), λ _. refl)

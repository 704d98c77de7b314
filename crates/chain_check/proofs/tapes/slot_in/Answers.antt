use Rattle.desk_types.proofs.Common.{◌≡◌, AllByRecursion, false, Name, rules, subst, sym}
use Rattle.chain_check.proofs.SameSlots.{covered-slots, HoldsAtFront}
use Rattle.state_rows.specs.Kept.{ListsMounts, tables_in}
use Rattle.chain_check.proofs.tapes.slot_in.Goals as goal

pub loop-key-preserved : goal.loop-key-preserved
loop-key-preserved g c = λ rest.
    let P = λ (m : Name) (s : Name). g.F.Facts.reels_on c.args.old.now m s ≡ g.F.Facts.reels_on c.args.new.now m s in
    let same : c.is_changed.result ≡ false = search rules in
    c.loop-key.invariant (subst (AllByRecursion (HoldsAtFront (g.F.Facts.reels_on c.args.own.now) P)) (sym c.in-Some.ensures.steps) (c.is_changed.ensures.same same, rest))

pub returns : goal.returns
returns g c =
    let P = λ (m : Name) (s : Name). g.F.Facts.reels_on c.args.old.now m s ≡ g.F.Facts.reels_on c.args.new.now m s in
    let reels = g.F.Facts.reels_on c.args.own.now in
    let rows = c.args.mounts.now in
    let es = c.into_iter-key-iterator.result in
    let lists : ListsMounts es (tables_in rows).mounts = subst (λ xs. ListsMounts xs (tables_in rows).mounts) (search rules) c.mounts-key-items.ensures in
    let all = c.loop-key.invariant (subst (AllByRecursion (HoldsAtFront reels P)) (sym c.in-None.ensures.steps.0) tt) in
    record { same = λ G judged is live machine slot some. covered-slots reels P G rows es machine slot judged is lists all live some; differs = tt }

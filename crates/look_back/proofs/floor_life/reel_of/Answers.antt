use Rattle.desk_types.proofs.Common.{reverse, subst, sym, take}
use Rattle.reels.specs.Reel.{IsReelOf}
use Rattle.look_back.proofs.HandledReels.{by-then, judged-next, so-far}
use Rattle.look_back.proofs.floor_life.reel_of.Goals as goal

pub reel_after-reel-requires : goal.reel_after-reel-requires
reel_after-reel-requires c reel is =
    let judged = judged-next c.args.entries.now c.loop-entry.entry-index c.entry-item.result c.loop-entry-test.true c.entry-item.is c.requires in
    by-then (reverse (take c.loop-entry.entry-index c.args.entries.now)) c.entry-item.result c.args.name.now c.loop-entry.reel judged c.loop-entry.invariant reel is

pub loop-entry-preserved : goal.loop-entry-preserved
loop-entry-preserved c =
    let entries = c.args.entries.now in
    let i = c.loop-entry.entry-index in
    let H = reverse (take i entries) in
    let e = c.entry-item.result in
    let judged = judged-next entries i e c.loop-entry-test.true c.entry-item.is c.requires in
    let so_far = so-far entries i e c.loop-entry-test.true c.entry-item.is in
    subst (λ all. IsReelOf all c.args.name.now c.reel_after-reel.result) (sym so_far) (c.reel_after-reel.ensures H judged c.loop-entry.invariant)

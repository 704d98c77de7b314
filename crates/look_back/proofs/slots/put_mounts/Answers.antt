use Rattle.desk_types.proofs.Common.{[], ◌++◌, ◌∙◌, ◌∷◌, All-get_or, ap, mount_of, reverse, subst, sym}
use Rattle.judging.{proofs.MountLists.place-next, specs.Facts.IsKnownReel}
use Rattle.look_back.proofs.slots.put_mounts.Goals as goal

pub mount-requires-clause-received : goal.mount-requires-clause-received
mount-requires-clause-received c =
    let known = IsKnownReel (reverse c.args.entries.now) in
    subst known (sym c.index-reels-index.is)
    (All-get_or known c.args.reels.now c.loop-index.index c.index-reels-index.result c.loop-index-test.true c.requires.received)

pub loop-index-preserved : goal.loop-index-preserved
loop-index-preserved c =
    c.in_ok-push.ensures.items
    ∙ ap (λ m. c.loop-index.mounts.items ++ m ∷ []) c.mount.ensures
    ∙ place-next (mount_of (reverse c.args.entries.now) c.args.slot.now) c.args.mounts.now.items c.loop-index.mounts.items c.args.reels.now c.loop-index.index
    c.index-reels-index.result c.loop-index-test.true c.index-reels-index.is c.loop-index.invariant

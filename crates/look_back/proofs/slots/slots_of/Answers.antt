use Rattle.desk_types.proofs.Common.{◌∙◌, All, reverse, subst, sym}
use Rattle.judging.specs.Facts.{IsKnownReel}
use Rattle.look_back.proofs.ListedReels.{all-known}
use Rattle.look_back.proofs.slots.slots_of.Goals as goal

pub put_mounts-requires-clause-received : goal.put_mounts-requires-clause-received
put_mounts-requires-clause-received c =
    let H = reverse c.args.entries.now in
    subst (All (IsKnownReel H)) (sym (c.as_slice.ensures.value ∙ c.in_ok-reels.ensures)) (all-known H c.args.machine.now c.slot-item.result c.requires.judged)

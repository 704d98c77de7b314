use Rattle.desk_types.proofs.Common.{◌∙◌, reverse, sym}
use Rattle.look_back.proofs.ListedReels.{mount-viewed}
use Rattle.look_back.proofs.slots.mount.Goals as goal

pub returns : goal.returns
returns c = mount-viewed (reverse c.args.entries.now) c.args.slot.now c.args.reel.now c.args.position c.in-Some.view (sym c.reel_view.ensures ∙ c.in-Some.is)

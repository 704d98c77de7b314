use Rattle.cfx_profile.proofs.Skips.{others_skipped}
use Rattle.cfx_profile.proofs.skipped.other_members_are_skipped.Goals as goal

pub returns : goal.returns
returns c = others_skipped

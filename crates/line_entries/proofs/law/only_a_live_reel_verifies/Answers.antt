use Rattle.line_entries.proofs.Live.{verified}
use Rattle.line_entries.proofs.law.only_a_live_reel_verifies.Goals as goal

pub returns : goal.returns
returns c = verified

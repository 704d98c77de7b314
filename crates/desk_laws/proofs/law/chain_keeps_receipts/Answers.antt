use Rattle.desk_laws.proofs.ChainLots.{pieces-origin}
use Rattle.desk_laws.proofs.law.chain_keeps_receipts.Goals as goal

pub returns : goal.returns
returns c = pieces-origin

use Rattle.desk_laws.proofs.GrowingTapes.{tape-joins}
use Rattle.desk_laws.proofs.slots.tapes_keep_their_order.Goals as goal

pub returns : goal.returns
returns c = tape-joins

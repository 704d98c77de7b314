use Rattle.desk_types.proofs.Common.{None}
use Rattle.line_book.proofs.Setups.{lot-written, reel-written}
use Rattle.line_book.proofs.holds.Holds.release.Goals as goal

pub returns-in-Reel : goal.returns-in-Reel
returns-in-Reel c = reel-written c.args.self.now c.remove.new.self c.in-Reel.reel None
    c.args.stock.now c.in-Reel.is c.remove.ensures.updates.0

pub returns-in-Lot : goal.returns-in-Lot
returns-in-Lot c = lot-written c.args.self.now c.remove-in-Lot.new.self c.in-Lot.lot None
    c.args.stock.now c.in-Lot.is c.remove-in-Lot.ensures.updates.0

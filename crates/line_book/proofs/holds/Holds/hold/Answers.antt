use Rattle.desk_types.proofs.Common.{Some}
use Rattle.line_book.proofs.Setups.{lot-written, reel-written}
use Rattle.line_book.proofs.holds.Holds.hold.Goals as goal

pub returns-in_ok-insert-in-Reel : goal.returns-in_ok-insert-in-Reel
returns-in_ok-insert-in-Reel c = reel-written c.args.self.now c.insert.new.self c.in-Reel.reel (Some c.args.number)
    c.args.stock.now c.in-Reel.is c.in_ok-insert-in-Reel.ensures.updates.0

pub returns-in_ok-insert-in-Lot : goal.returns-in_ok-insert-in-Lot
returns-in_ok-insert-in-Lot c = lot-written c.args.self.now c.insert-in-Lot.new.self c.in-Lot.lot (Some c.args.number)
    c.args.stock.now c.in-Lot.is c.in_ok-insert-in-Lot.ensures.updates.0

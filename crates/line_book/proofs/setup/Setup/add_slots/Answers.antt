use Rattle.desk_types.proofs.Common.{◌+◌, arith, front_at, now_of, take, take-next}
use Rattle.line_book.specs.Causes.{slot_causes}
use Rattle.line_book.proofs.Setups.{mapped-at, slots-step}
use Rattle.line_book.proofs.setup.Setup.add_slots.Goals as goal

pub loop-i-preserved : goal.loop-i-preserved
loop-i-preserved g c = λ S B machine stands keeps at are.
    let rows = c.args.rows.now in
    let fronts = c.args.fronts.now in
    let i = c.loop-i.i in
    let row = c.index-rows-i.result in
    let front = c.index-fronts-i.result in
    let here = mapped-at (front_at S.history (now_of S.history) machine) rows fronts i row front (omega arith) are
    c.index-rows-i.is c.index-fronts-i.is in
    slots-step (slot_causes S.history B machine) (take i rows) (take (i + 1) rows) row
    c.args.found.now.items c.loop-i.found.items c.add_slot.new.found.items
    (take-next rows i row (omega arith) c.index-rows-i.is) (c.loop-i.invariant S B machine stands keeps at are)
    (c.in_ok-add_slot.ensures S B machine stands keeps at here)

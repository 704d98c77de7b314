use Rattle.desk_types.proofs.Common.{arith, on_ok_weaker}
use Rattle.line_tables.proofs.Common.{HasCleanDisk, state}
use Rattle.line_tables.proofs.Creates.{extends_then}
use Rattle.line_tables.proofs.making.make_tables.Goals as goal

pub returns-clause-made : goal.returns-clause-made
returns-clause-made g c clean =
    let a = state g.S.Store c.args.tx.now.conn.now in
    let one = state g.S.Store c.make_list.new.tx.conn.now in
    let two = state g.S.Store c.make_setup.new.tx.conn.now in
    let three = state g.S.Store c.make_floor.new.tx.conn.now in
    let clean_3 : HasCleanDisk three = omega (arith, c.make_pieces.ensures.within.survives.clean) in
    let clean_2 : HasCleanDisk two = omega (arith, c.make_floor.ensures.within.survives.clean, c.make_pieces.ensures.within.survives.clean) in
    let clean_1 : HasCleanDisk one = omega (arith, c.make_setup.ensures.within.survives.clean, c.make_floor.ensures.within.survives.clean, c.make_pieces.ensures.within.survives.clean) in
    let first = extends_then _ _ _ a one two (c.in_ok-make_list.ensures.made clean_1) (c.in_ok-make_setup.ensures.made clean_2) in
    let most = extends_then _ _ _ a two three first (c.in_ok-make_floor.ensures.made clean_3) in
    on_ok_weaker c.make_pieces.result (λ last. extends_then _ _ _ a three (state g.S.Store c.make_pieces.new.tx.conn.now) most last) (c.make_pieces.ensures.made clean)

use Rattle.desk_types.proofs.Common.{arith}
use Rattle.line_tables.proofs.Common.{board, HasCleanDisk, mount, reel, state}
use Rattle.line_tables.proofs.Rising.{tells, told_three}
use Rattle.line_tables.proofs.RowidTexts.{board_is, mount_is, reel_is}
use Rattle.line_tables.proofs.rowids.is_floor_apart.Goals as goal

pub returns-clause-found : goal.returns-clause-found
returns-clause-found g c clean =
    let h1 = c.args.conn.now in
    let h2 = c.shows_rising.new.conn in
    let h3 = c.shows_rising-2.new.conn in
    let h4 = c.shows_rising-3.new.conn in
    let clean_3 : HasCleanDisk (state g.S.Store h4) = omega (arith, c.is_found_apart.ensures.reads.survives.clean) in
    let clean_2 : HasCleanDisk (state g.S.Store h3) = omega (arith, c.shows_rising-3.ensures.reads.survives.clean, clean_3) in
    let clean_1 : HasCleanDisk (state g.S.Store h2) = omega (arith, c.shows_rising-2.ensures.reads.survives.clean, clean_2) in
    told_three (state g.S.Store h1) (state g.S.Store h2) (state g.S.Store h3) (state g.S.Store h4) (c.shows_rising.ensures.reads.kept clean_1) (c.shows_rising-2.ensures.reads.kept clean_2) (c.shows_rising-3.ensures.reads.kept clean_3) reel mount board c.args.rules _ _ _ _
    (tells g.S.Store h1 _ 11 _ reel_is _ (c.in_ok-reel.ensures.shown clean_1)) (tells g.S.Store h2 _ 13 _ mount_is _ (c.in_ok-mount.ensures.shown clean_2)) (tells g.S.Store h3 _ 15 _ board_is _ (c.in_ok-board.ensures.shown clean_3)) (c.in_ok-found.ensures.found clean)
    _ c.are_true.ensures

use Rattle.desk_types.proofs.Common.{arith}
use Rattle.line_tables.proofs.Common.{alternate, HasCleanDisk, part, selected, sheet_row, state}
use Rattle.line_tables.proofs.Rising.{tells, told_four}
use Rattle.line_tables.proofs.RowidTexts.{alternate_is, part_is, selected_is, sheet_row_is}
use Rattle.line_tables.proofs.rowids.is_setup_apart.Goals as goal

pub returns-clause-found : goal.returns-clause-found
returns-clause-found g c clean =
    let h1 = c.args.conn.now in
    let h2 = c.shows_rising.new.conn in
    let h3 = c.shows_rising-2.new.conn in
    let h4 = c.shows_rising-3.new.conn in
    let clean_3 : HasCleanDisk (state g.S.Store h4) = omega (arith, c.shows_rising-4.ensures.reads.survives.clean) in
    let clean_2 : HasCleanDisk (state g.S.Store h3) = omega (arith, c.shows_rising-3.ensures.reads.survives.clean, clean_3) in
    let clean_1 : HasCleanDisk (state g.S.Store h2) = omega (arith, c.shows_rising-2.ensures.reads.survives.clean, clean_2) in
    told_four (state g.S.Store h1) (state g.S.Store h2) (state g.S.Store h3) (state g.S.Store h4) (c.shows_rising.ensures.reads.kept clean_1) (c.shows_rising-2.ensures.reads.kept clean_2) (c.shows_rising-3.ensures.reads.kept clean_3) part alternate sheet_row selected _ _ _ _
    (tells g.S.Store h1 _ 3 _ part_is _ (c.in_ok-part.ensures.shown clean_1)) (tells g.S.Store h2 _ 5 _ alternate_is _ (c.in_ok-alternate.ensures.shown clean_2)) (tells g.S.Store h3 _ 7 _ sheet_row_is _ (c.in_ok-sheet_row.ensures.shown clean_3)) (tells g.S.Store h4 _ 9 _ selected_is _ (c.in_ok-selected.ensures.shown clean))
    _ c.are_true.ensures

use Rattle.desk_types.proofs.Common.{arith}
use Rattle.line_tables.proofs.Common.{HasCleanDisk, state}
use Rattle.line_replay.proofs.PlacementsFound.{all_here, more_before}
use Rattle.line_tables.proofs.Keeps.{reads_before}
use Rattle.line_replay.proofs.placements.has_range.Goals as goal

pub returns-then-branch-clause-found : goal.returns-then-branch-clause-found
returns-then-branch-clause-found g c clean =
    let old = state g.S.Store c.args.conn.now in
    let range = c.in_ok-are_in_a_row.ensures.found clean c.if-branch.true in
    record { was_open = range.was_open; are = λ schema. (all_here old.committed c.args.rows.now (range.are schema).here, more_before old.committed c.args.first c.args.end c.args.rows.now (range.are schema)) }

pub returns-clause-found : goal.returns-clause-found
returns-clause-found g c clean =
    let old = state g.S.Store c.args.conn.now in
    let mid = state g.S.Store c.are_in_a_row.new.conn in
    let early : HasCleanDisk mid = omega (arith, c.has_each.ensures.reads.survives.clean, clean) in
    let told = reads_before old mid (c.are_in_a_row.ensures.reads.kept early) _ (c.in_ok-has_each.ensures.found clean) in
    record { was_open = told.was_open; are = λ schema. (told.are schema, λ count was. tt) }

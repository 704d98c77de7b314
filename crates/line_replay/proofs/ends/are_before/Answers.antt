use Rattle.desk_types.proofs.Common.{◌≡◌, arith, false, rules}
use Rattle.line_tables.proofs.Common.{HasCleanDisk, state}
use Rattle.line_replay.proofs.PlacementEnds.{all_before}
use Rattle.line_tables.proofs.Keeps.{reads_before}
use Rattle.line_replay.proofs.ends.are_before.Goals as goal

pub returns-clause-found : goal.returns-clause-found
returns-clause-found g c clean holds =
    let old = state g.S.Store c.args.conn.now in
    let mid = state g.S.Store c.least_rowid.new.conn in
    let early : HasCleanDisk mid = omega (arith, c.has_from.ensures.reads.survives.clean, clean) in
    let low = c.in_ok-least.ensures.least early in
    let no_more : c.in_ok-more.more ≡ false = search rules in
    let none = reads_before old mid (c.least_rowid.ensures.reads.kept early) _ (c.in_ok-more.ensures.none clean no_more) in
    record { was_open = low.was_open; are = λ schema count before. all_before old.committed c.in_ok-least.least c.args.end count (c.is_negative.ensures c.if-is_negative.false) (low.are schema) (none.are schema) before }

use Rattle.desk_types.proofs.Common.{arith, err_from_is_err_and}
use Rattle.line_tables.proofs.Common.{HasCleanDisk, state}
use Rattle.line_replay.proofs.Committed.{fault_before, reads_through, replayed, too_few}
use Rattle.line_replay.proofs.replaying.replay.Goals as goal

pub returns-in_err-least_is_one-clause-fault : goal.returns-in_err-least_is_one-clause-fault
returns-in_err-least_is_one-clause-fault g c clean =
    let p = err_from_is_err_and c.from_residual.result c.from_residual.ensures.1 in
    rw (p.1, p.2) (c.in_err-least_is_one.ensures.err clean c.args.rules c.args.greatest)

pub returns-in_err-desk-clause-fault : goal.returns-in_err-desk-clause-fault
returns-in_err-desk-clause-fault g c clean =
    let old = state g.S.Store c.args.conn.now in
    let mid = state g.S.Store c.least_is_one.new.conn in
    let p = err_from_is_err_and c.from_residual-in_err-desk.result c.from_residual-in_err-desk.ensures.1 in
    let early : HasCleanDisk mid = omega (arith, c.take_rows.ensures.reads.survives.clean) in
    rw (p.1, p.2) (fault_before c.args.rules c.args.greatest old mid c.in_err-desk.field-0.0 (c.least_is_one.ensures.reads.kept early) (c.in_ok-least_is_one.ensures.ok early) (c.in_err-desk.ensures.err clean))

pub returns-then-not-all-clause-fault : goal.returns-then-not-all-clause-fault
returns-then-not-all-clause-fault g c clean =
    let on = reads_through g.S.Store c.args.conn.now c.least_is_one.new.conn c.take_rows.new.conn c.are_all.new.conn c.least_is_one.ensures.reads c.take_rows.ensures.reads c.are_all.ensures.reads in
    too_few g.D.Desk.Stands c.args.rules c.args.greatest _ _ _ (c.in_ok-desk.desk, c.in_ok-desk.lists) _ c.in_ok-desk.count _ _ _ on c.in_ok-desk.ensures.taken c.in_ok-all.all c.in_ok-all.ensures.counted
    c.if-not-all.true clean c.in_ok-least_is_one.ensures.ok

pub returns-clause-list : goal.returns-clause-list
returns-clause-list g c =
    let on = reads_through g.S.Store c.args.conn.now c.least_is_one.new.conn c.take_rows.new.conn c.are_all.new.conn c.least_is_one.ensures.reads c.take_rows.ensures.reads c.are_all.ensures.reads in
    replayed g.D.Desk.Stands c.args.rules c.args.greatest _ _ _ (c.in_ok-desk.desk, c.in_ok-desk.lists) _ c.in_ok-desk.count _ _ _ on c.in_ok-desk.ensures.taken c.in_ok-all.all c.in_ok-all.ensures.counted
    c.if-not-all.false

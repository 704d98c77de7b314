use Rattle.desk_types.proofs.Common.{arith, IfOk-weaker}
use Rattle.line_tables.proofs.Common.{HasCleanDisk, state}
use Rattle.line_tables.proofs.Keeps.{reads_before}
use Rattle.line_replay.proofs.ends.count_to.Goals as goal

pub returns-then-branch-clause-counted : goal.returns-then-branch-clause-counted
returns-then-branch-clause-counted g c clean =
    let all = c.in_ok-are_before.ensures.found clean c.if-branch.true in
    record { was_open = all.was_open; are = λ schema before. all.are schema c.args.known before }

pub returns-clause-counted : goal.returns-clause-counted
returns-clause-counted g c clean =
    let old = state g.S.Store c.args.conn.now in
    let mid = state g.S.Store c.are_before.new.conn in
    IfOk-weaker c.count.result _ _ (λ n counted.
    let early : HasCleanDisk mid = omega (arith, c.count.ensures.reads.survives.clean, clean) in
    let told = reads_before old mid (c.are_before.ensures.reads.kept early) _ counted in record {
      was_open = told.was_open;
      are = λ schema before. told.are schema;
    }) (c.count.ensures.counted clean)

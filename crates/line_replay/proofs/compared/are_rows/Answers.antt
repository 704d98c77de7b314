use Rattle.desk_types.proofs.Common.{arith}
use Rattle.line_tables.proofs.Common.{HasCleanDisk, state}
use Rattle.line_replay.proofs.MatchedEntries.{all_alone, matched_more, not_alone, too_few}
use Rattle.line_replay.specs.TableNames.{table_of}
use Rattle.line_tables.proofs.Frames.{reads_then}
use Rattle.line_replay.proofs.compared.are_rows.Goals as goal

pub returns-then-left-eq0-clause-same : goal.returns-then-left-eq0-clause-same
returns-then-left-eq0-clause-same g c clean es yields f listed one_key =
    let e = g.E.ExpectedRow in
    let old = state g.S.Store c.args.conn.now in
    too_few e.entry (table_of c.args.table) e.has e.columns one_key f es listed old g.I.Iterator.next_gives c.loop-row.yielded c.args.rows _ c.loop-row.row-iterator c.next.new.self c.next.result c.into_iter-row-iterator.ensures.into_iter_gives yields c.loop-row.yielded_by c.next.ensures.steps
    c.in-Some.row c.in-Some.is c.loop-row.left c.if-left-eq0.true (c.loop-row.invariant.matched clean)

pub returns-then-not-branch-clause-same : goal.returns-then-not-branch-clause-same
returns-then-not-branch-clause-same g c clean es yields f listed one_key =
    let e = g.E.ExpectedRow in
    let old = state g.S.Store c.args.conn.now in
    let mid = state g.S.Store c.loop-row.conn in
    let early : HasCleanDisk mid = omega (arith, c.is_alone.ensures.reads.survives.clean) in
    not_alone e.entry (table_of c.args.table) e.has e.columns one_key f es listed old g.I.Iterator.next_gives c.loop-row.yielded c.args.rows _ c.loop-row.row-iterator c.next.new.self c.next.result c.into_iter-row-iterator.ensures.into_iter_gives yields c.loop-row.yielded_by c.next.ensures.steps
    c.in-Some.row c.in-Some.is mid (c.loop-row.invariant.reads.kept early) c.in_ok-is_alone.field-0 (rw c.requires.theirs (c.in_ok-is_alone.ensures.found clean)) c.if-not-branch.true

pub returns-then-not-branch-clause-reads : goal.returns-then-not-branch-clause-reads
returns-then-not-branch-clause-reads g c = reads_then g.S.Store c.args.conn.now c.loop-row.conn c.is_alone.new.conn c.loop-row.invariant.reads c.is_alone.ensures.reads

pub returns-in_err-is_alone-clause-reads : goal.returns-in_err-is_alone-clause-reads
returns-in_err-is_alone-clause-reads g c = reads_then g.S.Store c.args.conn.now c.loop-row.conn c.is_alone.new.conn c.loop-row.invariant.reads c.is_alone.ensures.reads

pub loop-row-preserved : goal.loop-row-preserved
loop-row-preserved g c =
    let e = g.E.ExpectedRow in
    let old = state g.S.Store c.args.conn.now in
    let mid = state g.S.Store c.loop-row.conn in
    let new = state g.S.Store c.is_alone.new.conn in
    let was = c.loop-row.invariant in
    let goes = c.in-Some.ensures.goes.on was.ends in
    let early : HasCleanDisk new → HasCleanDisk mid = λ clean. omega (arith, c.is_alone.ensures.reads.survives.clean) in record {
      can = goes.0;
      ends = goes.1;
      matched = λ clean. matched_more e.entry (table_of c.args.table) e.has e.columns old mid (was.reads.kept (early clean)) c.loop-row.left _ c.loop-row.yielded c.in-Some.row (was.matched (early clean)) c.in_ok-is_alone.field-0
          (rw c.requires.theirs (c.in_ok-is_alone.ensures.found clean)) c.if-not-branch.false (omega (arith, c.if-left-eq0.false));
      reads = reads_then g.S.Store c.args.conn.now c.loop-row.conn c.is_alone.new.conn was.reads c.is_alone.ensures.reads;
    }

pub returns-clause-same : goal.returns-clause-same
returns-clause-same g c clean es yields f listed one_key =
    let e = g.E.ExpectedRow in
    let old = state g.S.Store c.args.conn.now in
    all_alone e.entry (table_of c.args.table) e.has e.columns one_key f es listed old g.I.Iterator.next_gives c.loop-row.yielded c.args.rows _ c.loop-row.row-iterator c.next.new.self c.next.result c.into_iter-row-iterator.ensures.into_iter_gives yields c.loop-row.yielded_by c.next.ensures.steps
    c.in-None.is c.loop-row.left (c.loop-row.invariant.matched clean)

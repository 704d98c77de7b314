use Rattle.desk_types.proofs.Common.{[], ◌+◌, ◌≤◌, arith, basis, err_from_is_err_and, refl}
use Rattle.line_tables.proofs.Common.{HasCleanDisk, state}
use Rattle.line_replay.proofs.{ExpectedRows.none_expected, OneRowMore.fault_taken, OneRowMore.taken_more}
use Rattle.line_replay.specs.{Expected.kept_with, Replay.StandsListed}
use Rattle.line_tables.proofs.Frames.{reads_same, reads_then}
use Rattle.line_replay.proofs.taking.take_rows.Goals as goal

pub loop-number-init : goal.loop-number-init
loop-number-init g c =
    let old = state g.S.Store c.args.conn.now in
    let empty = c.rows-empty.ensures in record {
      taken = (
        [],
        record {
          stands = (c.fresh-desk.ensures, c.new-lists.ensures.listed);
          judged = tt;
          counted = refl;
          rows = λ clean schema. tt;
          others = none_expected (HasCleanDisk old) old.committed _ _ empty.kept (empty.same (basis c.args.rules []) c.fresh-desk.ensures);
        },
      );
      reads = reads_same g.S.Store c.args.conn.now;
    }

pub loop-number-preserved : goal.loop-number-preserved
loop-number-preserved g c =
    let was = c.loop-number.invariant in
    let B = basis c.args.rules was.taken.0 in
    let taken = was.taken.1 in
    let mid = state g.S.Store c.loop-number.conn in
    let new = state g.S.Store c.take_row.new.conn in
    let early : HasCleanDisk new → HasCleanDisk mid = λ clean. omega (arith, c.take_row.ensures.reads.survives.clean) in
    let went = rw c.if-not-taken.false at (c.in_ok-taken.ensures.ok B taken.stands (omega (arith, taken.counted))) in record {
      taken = taken_more (StandsListed g.D.Desk.Stands) B (state g.S.Store c.args.conn.now) mid (HasCleanDisk mid) (HasCleanDisk new) early was.reads.kept (c.loop-number.desk, c.loop-number.lists) (c.take_row.new.desk, c.take_row.new.lists) (kept_with (g.D.KeepsRows.kept_rows c.loop-number.desk) c.loop-number.placed) (kept_with (g.D.KeepsRows.kept_rows c.take_row.new.desk) c.take_row.new.placed) c.loop-number.number taken went;
      reads = reads_then g.S.Store c.args.conn.now c.loop-number.conn c.take_row.new.conn was.reads c.take_row.ensures.reads;
    }

pub returns-in_err-taken-clause-err : goal.returns-in_err-taken-clause-err
returns-in_err-taken-clause-err g c clean =
    let was = c.loop-number.invariant in
    let B = basis c.args.rules was.taken.0 in
    let taken = was.taken.1 in
    let old = state g.S.Store c.args.conn.now in
    let mid = state g.S.Store c.loop-number.conn in
    let n = c.loop-number.number in
    let early : HasCleanDisk mid = omega (arith, c.take_row.ensures.reads.survives.clean, clean) in
    let low : n + 1 ≤ c.args.greatest = omega (arith, c.loop-number-test.true) in
    let p = err_from_is_err_and c.from_residual.result c.from_residual.ensures.1 in
    let stop = c.in_err-taken.ensures.err B taken.stands.0 (omega (arith, taken.counted)) clean in
    rw (p.1, p.2) (fault_taken (StandsListed g.D.Desk.Stands) B c.args.greatest old mid (HasCleanDisk mid) (c.loop-number.desk, c.loop-number.lists) (kept_with (g.D.KeepsRows.kept_rows c.loop-number.desk) c.loop-number.placed) n early (was.reads.kept early) taken low c.in_err-taken.field-0.0 stop)

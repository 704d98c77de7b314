use Rattle.desk_types.proofs.Common.{◌+◌, ◌<◌, ◌∙◌, ◌≤◌, AllByRecursion, arith, drop, length, Option, subst}
use Rattle.desk_types.proofs.Common.{sym, take, take_all, true≢false, ℕ}
use Rattle.line_tables.proofs.Common.{HasCleanDisk, state}
use Rattle.desk_types.specs.declared.row.PlacementRow.{PlacementRow}
use Rattle.line_replay.proofs.{PlacementsAsExpected.expected_after, Verdicts.right_more, Verdicts.split_at}
use Rattle.line_replay.specs.Audit.{HoldsTable, IsExpected, Pieces, with_placements}
use Rattle.line_tables.proofs.{Frames.reads_then, Keeps.reads_before}
use Rattle.state_rows.specs.Kept.{tables_in}
use Rattle.line_replay.proofs.auditing.audit_tables.Goals as goal

pub returns-then-not-branch-clause-verdict : goal.returns-then-not-branch-clause-verdict
returns-then-not-branch-clause-verdict g c clean f es expected =
    let old = state g.S.Store c.args.conn.now in
    let mid = state g.S.Store c.loop-table.conn in
    let early : HasCleanDisk mid = omega (arith, c.is_same.ensures.reads.survives.clean) in
    let kept = c.loop-table.invariant.reads.kept early in
    let told = reads_before old mid kept _ (c.in_ok-is_same.ensures.same clean f es (expected_after old mid kept c.args.placed es f expected)) in
    let i = c.loop-table.table-index in
    let within : i < length c.args.tables.now = omega (arith, c.loop-table-test.true) in
    record {
      was_open = told.was_open;
      are = λ schema. record {
        before = take i c.args.tables.now;
        after = drop (i + 1) c.args.tables.now;
        place = split_at c.args.tables.now i _ within;
        right = c.loop-table.invariant.right early f es expected schema;
        wrong = λ holds. true≢false (sym ((told.are schema).1 holds) ∙ c.if-not-branch.true);
      };
    }

pub loop-table-preserved : goal.loop-table-preserved
loop-table-preserved g c =
    let old = state g.S.Store c.args.conn.now in
    let mid = state g.S.Store c.loop-table.conn in
    let new = state g.S.Store c.is_same.new.conn in
    let was = c.loop-table.invariant in
    let i = c.loop-table.table-index in
    let within : i < length c.args.tables.now = omega (arith, c.loop-table-test.true) in
    let early : HasCleanDisk new → HasCleanDisk mid = λ clean. omega (arith, c.is_same.ensures.reads.survives.clean) in
    let told = λ (clean : HasCleanDisk new) (f : ℕ × ℕ → Option PlacementRow) (es : Pieces) (expected : IsExpected old c.args.placed es f).
    reads_before old mid (was.reads.kept (early clean)) _ (c.in_ok-is_same.ensures.same clean f es (expected_after old mid (was.reads.kept (early clean)) c.args.placed es f expected)) in
    record {
      opened = λ clean f es expected some. (told clean f es expected).was_open;
      right = λ clean f es expected schema. right_more _ c.args.tables.now i _ within (was.right (early clean) f es expected schema) (((told clean f es expected).are schema).0 c.if-not-branch.false);
      reads = reads_then g.S.Store c.args.conn.now c.loop-table.conn c.is_same.new.conn was.reads c.is_same.ensures.reads;
    }

pub returns-clause-verdict : goal.returns-clause-verdict
returns-clause-verdict g c clean f es expected =
    let old = state g.S.Store c.args.conn.now in
    let i = c.loop-table.table-index in
    let whole : length c.args.tables.now ≤ i = omega (arith, c.loop-table-test.false) in
    let was = c.loop-table.invariant in
    record {
      was_open = was.opened clean f es expected (omega (arith, whole, c.requires));
      are = λ schema. subst (AllByRecursion (HoldsTable old.committed (with_placements f (tables_in c.args.rows.now)))) (take_all i c.args.tables.now whole) (was.right clean f es expected schema);
    }

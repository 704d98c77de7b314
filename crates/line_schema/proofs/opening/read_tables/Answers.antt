use Rattle.desk_types.proofs.Common.{arith, err_from_is_err_and, None, refl, Some, subst, sym}
use Rattle.line_tables.proofs.Common.{HasCleanDisk, KeepsCommit, state}
use Rattle.line_replay.proofs.ReadOfCommitted.{reads_as, reads_back}
use Rattle.line_replay.specs.Expected.{AreExpected, kept_with}
use Rattle.line_schema.proofs.ReadOfCommitted.{audited, list_fault, opened_on, reads_all, table_fault}
use Rattle.line_tables.proofs.Keeps.{keeps_then}
use Rattle.state_rows.specs.Kept.{KeptRows}
use Rattle.line_schema.proofs.opening.read_tables.Goals as goal

pub returns-in-None-clause-ok : goal.returns-in-None-clause-ok
returns-in-None-clause-ok g c =
    let old = state g.S.Store c.args.conn.now in
    let mid = state g.S.Store c.read_greatest.new.conn in
    let last = state g.S.Store c.replay.new.conn in
    let seen = state g.S.Store c.are_apart.new.conn in
    let Before = HasCleanDisk last in
    let After = HasCleanDisk (state g.S.Store c.audit.new.conn) in
    let late : After → HasCleanDisk seen = λ clean. omega (arith, c.audit.ensures.reads.survives.clean, clean) in
    let early : After → Before = λ clean. omega (arith, c.are_apart.ensures.reads.survives.clean, late clean) in
    let earlier : Before → HasCleanDisk mid = λ clean. omega (arith, c.replay.ensures.reads.survives.clean, clean) in
    let kept : After → KeepsCommit old mid = λ clean. c.read_greatest.ensures.reads.kept (earlier (early clean)) in
    let kept_on : After → KeepsCommit mid seen = λ clean. keeps_then mid last seen (c.replay.ensures.reads.kept (early clean)) (c.are_apart.ensures.reads.kept (late clean)) in
    let r = c.in_ok-desk.field-0 in
    let list = c.in_ok-desk.ensures.list in
    let others = subst (λ (rows : KeptRows). AreExpected Before mid.committed (kept_with rows r.placed) list.0) (sym c.rows.ensures.kept) list.1.others in
    let first = audited c.args.rules Before After old mid seen (kept_with c.rows.result.now r.placed) list.0 None early kept kept_on others (λ clean. rw c.in-None.is at (c.in_ok-other.ensures.verdict clean)) in (
      list.0,
      opened_on g.D.Desk.Stands Before After old mid c.args.rules r.desk (kept_with (g.D.KeepsRows.kept_rows r.desk) r.placed) r.count _ list.0 early list.1 list.2 refl refl c.in_ok-greatest.ensures.bound kept
          (λ clean. c.in_ok-greatest.ensures.ok (earlier (early clean))) first
          (λ clean. reads_back old last _ (keeps_then old mid last (kept clean) (c.replay.ensures.reads.kept (early clean))) (reads_as last _ _ (λ db apart. apart c.if-not-apart.false) (c.in_ok-apart.ensures.apart (late clean)))),
      list.1.others.rows,
    )

pub returns-in-Some-clause-err : goal.returns-in-Some-clause-err
returns-in-Some-clause-err g c clean =
    let old = state g.S.Store c.args.conn.now in
    let mid = state g.S.Store c.read_greatest.new.conn in
    let last = state g.S.Store c.replay.new.conn in
    let seen = state g.S.Store c.are_apart.new.conn in
    let Before = HasCleanDisk last in
    let After = HasCleanDisk (state g.S.Store c.audit.new.conn) in
    let late : After → HasCleanDisk seen = λ clean. omega (arith, c.audit.ensures.reads.survives.clean, clean) in
    let early : After → Before = λ clean. omega (arith, c.are_apart.ensures.reads.survives.clean, late clean) in
    let earlier : Before → HasCleanDisk mid = λ clean. omega (arith, c.replay.ensures.reads.survives.clean, clean) in
    let kept : After → KeepsCommit old mid = λ clean. c.read_greatest.ensures.reads.kept (earlier (early clean)) in
    let kept_on : After → KeepsCommit mid seen = λ clean. keeps_then mid last seen (c.replay.ensures.reads.kept (early clean)) (c.are_apart.ensures.reads.kept (late clean)) in
    let r = c.in_ok-desk.field-0 in
    let list = c.in_ok-desk.ensures.list in
    let others = subst (λ (rows : KeptRows). AreExpected Before mid.committed (kept_with rows r.placed) list.0) (sym c.rows.ensures.kept) list.1.others in
    let first = audited c.args.rules Before After old mid seen (kept_with c.rows.result.now r.placed) list.0 (Some c.in-Some.table) early kept kept_on others (λ clean. rw c.in-Some.is at (c.in_ok-other.ensures.verdict clean)) in
    table_fault g.D.Desk.Stands c.args.rules Before old mid r.desk (kept_with (g.D.KeepsRows.kept_rows r.desk) r.placed) r.count c.in_ok-greatest.greatest list.0 c.in-Some.table (early clean) list.1 (kept clean)
    (c.in_ok-greatest.ensures.ok (earlier (early clean))) (first clean)

pub returns-in_err-desk-clause-err : goal.returns-in_err-desk-clause-err
returns-in_err-desk-clause-err g c clean =
    let old = state g.S.Store c.args.conn.now in
    let mid = state g.S.Store c.read_greatest.new.conn in
    let early : HasCleanDisk mid = omega (arith, c.replay.ensures.reads.survives.clean, clean) in
    let p = err_from_is_err_and c.from_residual-in_err-desk.result c.from_residual-in_err-desk.ensures.1 in
    rw (p.1, p.2) (list_fault c.args.rules old mid c.in_ok-greatest.greatest (c.read_greatest.ensures.reads.kept early) (c.in_ok-greatest.ensures.ok early) c.in_err-desk.field-0.0 (c.in_err-desk.ensures.fault clean))

pub returns-in-None-clause-reads : goal.returns-in-None-clause-reads
returns-in-None-clause-reads g c =
    reads_all g.S.Store c.args.conn.now c.read_greatest.new.conn c.replay.new.conn c.are_apart.new.conn c.audit.new.conn
    c.read_greatest.ensures.reads c.replay.ensures.reads c.are_apart.ensures.reads c.audit.ensures.reads

pub returns-in-Some-clause-reads : goal.returns-in-Some-clause-reads
returns-in-Some-clause-reads g c =
    reads_all g.S.Store c.args.conn.now c.read_greatest.new.conn c.replay.new.conn c.are_apart.new.conn c.audit.new.conn
    c.read_greatest.ensures.reads c.replay.ensures.reads c.are_apart.ensures.reads c.audit.ensures.reads

pub returns-in_err-other-clause-reads : goal.returns-in_err-other-clause-reads
returns-in_err-other-clause-reads g c =
    reads_all g.S.Store c.args.conn.now c.read_greatest.new.conn c.replay.new.conn c.are_apart.new.conn c.audit.new.conn
    c.read_greatest.ensures.reads c.replay.ensures.reads c.are_apart.ensures.reads c.audit.ensures.reads

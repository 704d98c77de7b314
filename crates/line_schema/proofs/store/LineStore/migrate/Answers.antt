use Rattle.desk_types.proofs.Common.{arith, Err, IfErr, IsTrue, Ok, Result, rules}
use Rattle.line_tables.proofs.Common.{HasCleanDisk, KeepsCommit, state}
use Rattle.line_schema.proofs.Versions.{migrated_on, survives_migration}
use Rattle.line_tables.proofs.Keeps.{keeps_then}
use Rattle.line_schema.proofs.store.LineStore.migrate.Goals as goal

pub returns-clause-migrated : goal.returns-clause-migrated
returns-clause-migrated g c =
    let old = state g.S.Store c.args.conn.now in
    let mid = state g.S.Store c.read_tables.new.conn in
    let new = state g.S.Store c.migrate_tables.new.conn in
    let early : HasCleanDisk new → HasCleanDisk mid = λ clean. omega (arith, c.migrate_tables.ensures.crash.clean, clean) in
    let auto : IsTrue c.is_autocommit.result = search rules in
    let all = c.in_ok-_working.ensures.ok in record {
      named = c.in_ok-_working.ensures.named;
      migrated = λ clean. (
        _,
        all.0,
        migrated_on g.D.Desk.Stands (HasCleanDisk mid) old mid new _ all.0 all.1 (early clean) c.in_ok-_working.ensures.named (c.is_autocommit.ensures.settled auto) (c.read_tables.ensures.reads.kept (early clean))
            (c.in_ok-migrate_tables.ensures.done clean) (c.in_ok-migrate_tables.ensures.stays_open clean) (c.in_ok-migrate_tables.ensures.alone clean),
      );
    }

pub returns-clause-crash : goal.returns-clause-crash
returns-clause-crash g c =
    let old = state g.S.Store c.args.conn.now in
    let mid = state g.S.Store c.read_tables.new.conn in
    let new = state g.S.Store c.migrate_tables.new.conn in
    let kept : HasCleanDisk new → KeepsCommit old mid = λ clean. c.read_tables.ensures.reads.kept (omega (arith, c.migrate_tables.ensures.crash.clean, clean)) in
    survives_migration old mid new kept c.read_tables.ensures.reads.survives c.migrate_tables.ensures.crash

pub returns-in_err-migrate_tables-clause-crash : goal.returns-in_err-migrate_tables-clause-crash
returns-in_err-migrate_tables-clause-crash g c =
    let old = state g.S.Store c.args.conn.now in
    let mid = state g.S.Store c.read_tables.new.conn in
    let new = state g.S.Store c.migrate_tables.new.conn in
    let kept : HasCleanDisk new → KeepsCommit old mid = λ clean. c.read_tables.ensures.reads.kept (omega (arith, c.migrate_tables.ensures.crash.clean, clean)) in
    survives_migration old mid new kept c.read_tables.ensures.reads.survives c.migrate_tables.ensures.crash

err_still : {A E P : Type 0} (r : Result A E) → P → IfErr r (λ _. P)
err_still (Ok a) p = tt
err_still (Err e) p = p

pub returns-in_err-migrate_tables-clause-unchanged : goal.returns-in_err-migrate_tables-clause-unchanged
returns-in_err-migrate_tables-clause-unchanged g c clean =
    let old = state g.S.Store c.args.conn.now in
    let mid = state g.S.Store c.read_tables.new.conn in
    let new = state g.S.Store c.migrate_tables.new.conn in
    let early : HasCleanDisk mid = omega (arith, c.migrate_tables.ensures.crash.clean, clean) in
    err_still c.from_residual-in_err-migrate_tables.result (keeps_then old mid new (c.read_tables.ensures.reads.kept early) (c.in_err-migrate_tables.ensures.neither clean))

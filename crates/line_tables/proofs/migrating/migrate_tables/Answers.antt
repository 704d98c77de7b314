use Rattle.desk_types.proofs.Common.{IsTrue, rules}
use Rattle.line_tables.proofs.Common.{LeavesMigrated, Migrated, state}
use Rattle.line_tables.proofs.Leaves.{Ends, ends, migration_made}
use Rattle.line_tables.proofs.migrating.migrate_tables.Given.{Over}
use Rattle.line_tables.proofs.migrating.migrate_tables.Goals.{After-conn-2-1}
use Rattle.line_tables.proofs.migrating.migrate_tables.Goals as goal

ends_of : (g : Over) (c : After-conn-2-1 g) → let old = state g.S.Store c.args.conn.now in Ends g.S.Store c.args.conn.now c.conn-2-1.given.0 c.commit.result (Migrated old.committed) (LeavesMigrated old)
ends_of g c =
    let auto : IsTrue c.is_autocommit.result = search rules in
    ends g.S.Store c.args.conn.now c.transaction-tx.result.conn.now c.change_version.new.tx.conn.now c.commit.new.self.0 c.conn-2-1.given.0 c.commit.result _ _ c.transaction-tx.ensures.begun (search rules)
    (λ clean. migration_made g.S.Store c.args.conn.now c.change_version.new.tx.conn.now (c.is_autocommit.ensures.settled auto) (rw c.transaction-tx.ensures.begun at (c.in_ok-change_version.ensures.done clean))) c.change_version.ensures.within.survives c.commit.ensures.ok c.commit.ensures.survives (search rules)

pub returns-clause-done : goal.returns-clause-done
returns-clause-done g c = (ends_of g c).done

pub returns-clause-crash : goal.returns-clause-crash
returns-clause-crash g c = (ends_of g c).crash

pub returns-clause-alone : goal.returns-clause-alone
returns-clause-alone g c = (ends_of g c).alone

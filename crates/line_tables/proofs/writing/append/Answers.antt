use Rattle.desk_types.proofs.Common.{IsTrue, rules}
use Rattle.line_tables.proofs.Common.{command_edits, LeavesEdited, state}
use Rattle.line_tables.proofs.{Leaves.edits_made, Leaves.Ends, Leaves.ends, writing.append.Given.Over}
use Rattle.line_tables.proofs.{writing.append.Goals.After-conn-2-1}
use Rattle.line_tables.specs.Calls.{Edited}
use Rattle.line_tables.proofs.writing.append.Goals as goal

ends_of : (g : Over) (c : After-conn-2-1 g) → let old = state g.S.Store c.args.conn.now in let edits = command_edits c.args.row.now c.args.edits.now in Ends g.S.Store c.args.conn.now c.conn-2-1.given.0 c.commit.result (Edited edits old.committed) (LeavesEdited edits old)
ends_of g c =
    let auto : IsTrue c.is_autocommit.result = search rules in
    ends g.S.Store c.args.conn.now c.transaction-tx.result.conn.now c.put_all.new.tx.conn.now c.commit.new.self.0 c.conn-2-1.given.0 c.commit.result _ _ c.transaction-tx.ensures.begun (search rules)
    (λ clean. edits_made g.S.Store c.args.conn.now c.put_all.new.tx.conn.now (c.is_autocommit.ensures.settled auto) _ (rw c.transaction-tx.ensures.begun at (c.in_ok-put_all.ensures.done clean))) c.put_all.ensures.within.survives c.commit.ensures.ok c.commit.ensures.survives (search rules)

pub returns-clause-done : goal.returns-clause-done
returns-clause-done g c = (ends_of g c).done

pub returns-clause-crash : goal.returns-clause-crash
returns-clause-crash g c = (ends_of g c).crash

pub returns-clause-alone : goal.returns-clause-alone
returns-clause-alone g c = (ends_of g c).alone

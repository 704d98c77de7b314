use Rattle.desk_types.proofs.Common.{IsTrue, rules}
use Rattle.line_tables.proofs.Common.{command_edits, state}
use Rattle.line_tables.proofs.{Leaves.Ends, Leaves.ends}
use Rattle.line_book_store.proofs.{Both.both_made, together.append_with_entries.Given.Over}
use Rattle.line_book_store.proofs.{together.append_with_entries.Goals.After-conn-2-1}
use Rattle.line_book_store.specs.Together.{AddsBoth, LeavesTogether}
use Rattle.line_book_store.proofs.together.append_with_entries.Goals as goal

ends_of : (g : Over) (c : After-conn-2-1 g) → let old = state g.S.Store c.args.conn.now in Ends g.S.Store c.args.conn.now c.conn-2-1.given.0 c.commit.result (AddsBoth (command_edits c.args.row.now c.args.edits.now) c.args.entries.now old.committed) (LeavesTogether (command_edits c.args.row.now c.args.edits.now) c.args.entries.now old)
ends_of g c =
    let auto : IsTrue c.is_autocommit.result = search rules in
    ends g.S.Store c.args.conn.now c.transaction-tx.result.conn.now c.put_both.new.tx.conn.now c.commit.new.self.0 c.conn-2-1.given.0 c.commit.result _ _ c.transaction-tx.ensures.begun (search rules)
    (λ clean. both_made g.S.Store c.args.conn.now c.put_both.new.tx.conn.now (c.is_autocommit.ensures.settled auto) _ _ (rw c.transaction-tx.ensures.begun at (c.in_ok-put_both.ensures.done clean))) c.put_both.ensures.within.survives c.commit.ensures.ok c.commit.ensures.survives (search rules)

pub returns-clause-done : goal.returns-clause-done
returns-clause-done g c = (ends_of g c).done

pub returns-clause-crash : goal.returns-clause-crash
returns-clause-crash g c = (ends_of g c).crash

pub returns-clause-alone : goal.returns-clause-alone
returns-clause-alone g c = (ends_of g c).alone

pub returns-clause-neither : goal.returns-clause-neither
returns-clause-neither g c = search rules

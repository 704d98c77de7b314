use Rattle.desk_types.proofs.Common.{arith, on_ok_weaker}
use Rattle.line_tables.proofs.Common.{state}
use Rattle.line_tables.proofs.Frames.{within_then}
use Rattle.line_book_store.proofs.Both.{both_written}
use Rattle.line_book_store.proofs.together.put_both.Goals as goal

pub returns-clause-done : goal.returns-clause-done
returns-clause-done g c clean =
    on_ok_weaker c.put_entries.result (λ noted. both_written _ c.args.entries.now (state g.S.Store c.args.tx.now.conn.now) (state g.S.Store c.put_all.new.tx.conn.now) (state g.S.Store c.put_entries.new.tx.conn.now)
    (c.in_ok-put_all.ensures.done (omega (arith, c.put_entries.ensures.within.survives.clean, clean))) noted) (c.put_entries.ensures.done clean)

pub returns-clause-within : goal.returns-clause-within
returns-clause-within g c = within_then g.S.Store c.args.tx.now c.put_all.new.tx c.put_entries.new.tx c.put_all.ensures.within c.put_entries.ensures.within

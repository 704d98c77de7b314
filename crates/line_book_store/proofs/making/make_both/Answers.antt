use Rattle.desk_types.proofs.Common.{arith, on_ok_weaker}
use Rattle.line_tables.proofs.Common.{state}
use Rattle.line_tables.proofs.Frames.{within_then}
use Rattle.line_book_store.proofs.Openings.{both_opened}
use Rattle.line_book_store.proofs.making.make_both.Goals as goal

pub returns-clause-made : goal.returns-clause-made
returns-clause-made g c clean =
    on_ok_weaker c.add_book.result (λ opened. both_opened c.args.greatest (state g.S.Store c.args.tx.now.conn.now) (state g.S.Store c.make_all.new.tx.conn.now) (state g.S.Store c.add_book.new.tx.conn.now)
    (c.in_ok-make_all.ensures.made (omega (arith, c.add_book.ensures.within.survives.clean, clean))) opened) (c.add_book.ensures.done clean)

pub returns-clause-within : goal.returns-clause-within
returns-clause-within g c = within_then g.S.Store c.args.tx.now c.make_all.new.tx c.add_book.new.tx c.make_all.ensures.within c.add_book.ensures.within

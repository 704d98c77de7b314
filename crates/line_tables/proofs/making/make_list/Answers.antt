use Rattle.desk_types.proofs.Common.{arith, on_ok_weaker}
use Rattle.line_tables.proofs.Common.{HasCleanDisk, state}
use Rattle.line_tables.proofs.Creates.{makes_list}
use Rattle.line_tables.proofs.making.make_list.Goals as goal

pub returns-clause-made : goal.returns-clause-made
returns-clause-made g c clean =
    let clean_1 : HasCleanDisk (state g.S.Store c.run.new.tx.conn.now) = omega (arith, c.run-2.ensures.within.survives.clean) in
    on_ok_weaker c.run-2.result (λ last. makes_list (state g.S.Store c.args.tx.now.conn.now) (state g.S.Store c.run.new.tx.conn.now) (state g.S.Store c.run-2.new.tx.conn.now) (c.in_ok-run.ensures.ran clean_1) last) (c.run-2.ensures.ran clean)

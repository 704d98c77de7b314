use Rattle.desk_types.proofs.Common.{arith, on_ok_weaker}
use Rattle.line_tables.proofs.Common.{HasCleanDisk, state}
use Rattle.line_tables.proofs.Creates.{makes_pieces}
use Rattle.line_tables.proofs.making.make_pieces.Goals as goal

pub returns-clause-made : goal.returns-clause-made
returns-clause-made g c clean =
    let clean_1 : HasCleanDisk (state g.S.Store c.run.new.tx.conn.now) = omega (arith, c.make_found.ensures.within.survives.clean) in
    on_ok_weaker c.make_found.result (λ last. makes_pieces (state g.S.Store c.args.tx.now.conn.now) (state g.S.Store c.run.new.tx.conn.now) (state g.S.Store c.make_found.new.tx.conn.now) (c.in_ok-run.ensures.ran clean_1) last) (c.make_found.ensures.made clean)

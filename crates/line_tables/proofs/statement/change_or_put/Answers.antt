use Rattle.desk_types.proofs.Common.{arith, inl, inr, on_ok_weaker, subst}
use Rattle.line_tables.proofs.Common.{bound, HasCleanDisk, state}
use Rattle.line_tables.specs.Calls.{Changes}
use Rattle.line_tables.proofs.statement.change_or_put.Goals as goal

pub returns-in-0-clause-done : goal.returns-in-0-clause-done
returns-in-0-clause-done g c clean =
    let a = state g.S.Store c.args.tx.now.conn.now in
    let b = state g.S.Store c.run_counted.new.tx.conn.now in
    let early : HasCleanDisk b = omega (arith, c.run.ensures.within.survives.clean) in
    let none : Changes 0 c.args.update.now (bound c.args.values.now) a b = subst (λ n. Changes n c.args.update.now (bound c.args.values.now) a b) c.in-0.is (c.in_ok-changed.ensures.ran early) in
    on_ok_weaker c.run.result (λ ran. inr (c.run_counted.new.tx.conn.now, none, ran)) (c.run.ensures.ran clean)

pub returns-in-1-clause-done : goal.returns-in-1-clause-done
returns-in-1-clause-done g c clean =
    let a = state g.S.Store c.args.tx.now.conn.now in
    let b = state g.S.Store c.run_counted.new.tx.conn.now in
    inl (subst (λ n. Changes n c.args.update.now (bound c.args.values.now) a b) c.in-1.is (c.in_ok-changed.ensures.ran clean))

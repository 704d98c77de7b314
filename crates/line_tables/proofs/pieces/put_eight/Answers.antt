use Rattle.desk_types.proofs.Common.{on_ok_weaker, subst}
use Rattle.line_tables.proofs.Common.{Runs, state}
use Rattle.line_tables.{proofs.Placing.eight_put, specs.declared.pieces.TheConstants.INSERT_PLACEMENTS}
use Rattle.line_tables.proofs.pieces.put_eight.Goals as goal

pub returns-clause-done : goal.returns-clause-done
returns-clause-done g c clean =
    let a = state g.S.Store c.args.tx.now.conn.now in
    let b = state g.S.Store c.run.new.tx.conn.now in
    on_ok_weaker c.run.result (λ ran rows eight are. eight_put rows a b eight (subst (λ v. Runs INSERT_PLACEMENTS.now v a b) are ran)) (c.run.ensures.ran clean)

use Rattle.desk_types.proofs.Common.{arith, Bool, IfOk-weaker, subst, take}
use Rattle.line_tables.proofs.Common.{changed_tables, HasCleanDisk, Reads, state}
use Rattle.line_tables.{proofs.Rising.told_all, specs.Rising.AreApartWhere}
use Rattle.line_tables.proofs.rowids.are_apart.Goals as goal

pub returns-clause-apart : goal.returns-clause-apart
returns-clause-apart g c clean =
    let old = state g.S.Store c.args.conn.now in
    let mid = state g.S.Store c.is_setup_apart.new.conn in
    let early : HasCleanDisk mid = omega (arith, c.is_floor_apart.ensures.reads.survives.clean) in
    let first = subst (λ (b : Bool). Reads old (AreApartWhere b (take 4 changed_tables))) c.if-not-branch.false (c.in_ok-is_setup_apart.ensures.found early) in
    IfOk-weaker c.is_floor_apart.result _ _ (λ b others. told_all old mid (c.is_setup_apart.ensures.reads.kept early) first c.args.rules b others) (c.is_floor_apart.ensures.found clean)

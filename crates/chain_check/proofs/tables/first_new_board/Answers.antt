use Rattle.desk_types.proofs.Common.{◌∙◌, AllByRecursion, ap, by_name, exact_bytes, is_some, Name, rules}
use Rattle.desk_types.proofs.Common.{subst, sym}
use Rattle.desk_laws.proofs.Common.{BoardRow}
use Rattle.chain_check.proofs.{Covered.covered-rows, SameRows.IsKnown, SameRows.known}
use Rattle.state_rows.specs.Kept.{Lists, tables_in}
use Rattle.chain_check.proofs.tables.first_new_board.Goals as goal

pub loop-board-preserved : goal.loop-board-preserved
loop-board-preserved c = λ rest.
    let old = c.args.old.now in
    let new = c.args.new.now in
    let is : IsKnown old new c.in-Some.board.now = known _ _ (sym c.is_new_board.ensures ∙ c.if-is_new_board.false) in
    c.loop-board.invariant (subst (AllByRecursion (λ (e : Name × BoardRow). IsKnown old new e.0)) (sym c.in-Some.ensures.steps) (is, rest))

pub returns : goal.returns
returns c =
    let old = c.args.old.now in
    let new = c.args.new.now in
    let es = c.into_iter-board-iterator.result in
    let table = (tables_in new).boards in
    let lists : Lists by_name es table = subst (λ xs. Lists by_name xs table) (search rules) c.boards-board-items.ensures in
    let all = c.loop-board.invariant (subst (AllByRecursion (λ (e : Name × BoardRow). IsKnown old new e.0)) (sym c.in-None.ensures.steps.0) tt) in
    record { known = λ board has. covered-rows by_name exact_bytes (λ (k : Name). IsKnown old new k) es board all (ap is_some (lists.rows board) ∙ has) has; new = tt }

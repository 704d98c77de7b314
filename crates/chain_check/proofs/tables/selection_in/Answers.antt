use Rattle.desk_types.proofs.Common.{◌∙◌, ◌≡◌, AllByRecursion, ap, by_name, exact_bytes, is_some, Name, rules}
use Rattle.desk_types.proofs.Common.{subst, sym}
use Rattle.chain_check.proofs.{Covered.covered-rows, SameRows.SameSelection}
use Rattle.state_rows.specs.Kept.{Lists, tables_in}
use Rattle.chain_check.proofs.tables.selection_in.Goals as goal

pub loop-machine-preserved : goal.loop-machine-preserved
loop-machine-preserved c = λ rest.
    let old = c.args.old.now in
    let new = c.args.new.now in
    let one : c.selected_on.result ≡ c.selected_on-in-loop-machine.result = search rules in
    let same : SameSelection old new c.in-Some.machine.now = sym c.selected_on.ensures ∙ one ∙ c.selected_on-in-loop-machine.ensures in
    c.loop-machine.invariant (subst (AllByRecursion (λ (e : Name × Name). SameSelection old new e.0)) (sym c.in-Some.ensures.steps) (same, rest))

pub returns : goal.returns
returns c =
    let old = c.args.old.now in
    let new = c.args.new.now in
    let es = c.into_iter-machine-iterator.result in
    let table = (tables_in c.args.selected.now).selected in
    let lists : Lists by_name es table = subst (λ xs. Lists by_name xs table) (search rules) c.selected-machine-items.ensures in
    let all = c.loop-machine.invariant (subst (AllByRecursion (λ (e : Name × Name). SameSelection old new e.0)) (sym c.in-None.ensures.steps.0) tt) in
    record { same = λ machine has. covered-rows by_name exact_bytes (λ (k : Name). SameSelection old new k) es machine all (ap is_some (lists.rows machine) ∙ has); differs = tt }

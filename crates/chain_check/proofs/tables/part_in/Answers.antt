use Rattle.desk_types.proofs.Common.{◌∙◌, AllByRecursion, by_name, exact_bytes, Name, rules, subst, sym}
use Rattle.chain_check.proofs.{Covered.covered-keys, SameRows.beq-same, SameRows.SamePart}
use Rattle.state_rows.specs.Kept.{ListsKeys, tables_in}
use Rattle.chain_check.proofs.tables.part_in.Goals as goal

pub loop-part-preserved : goal.loop-part-preserved
loop-part-preserved c = λ rest.
    let old = c.args.old.now in
    let new = c.args.new.now in
    let part = c.in-Some.part.now in
    let same : SamePart old new part =
    sym (c.has.ensures ∙ c.part_set.ensures part) ∙ beq-same _ _ c.if-has.false ∙ c.has-in-loop-part.ensures ∙ c.part_set-in-loop-part.ensures part in
    c.loop-part.invariant (subst (AllByRecursion (λ (k : Name). SamePart old new k)) (sym c.in-Some.ensures.steps) (same, rest))

pub returns : goal.returns
returns c =
    let old = c.args.old.now in
    let new = c.args.new.now in
    let es = c.into_iter-part-iterator.result in
    let lists : ListsKeys by_name es (tables_in c.args.parts.now).parts = subst (λ xs. ListsKeys by_name xs (tables_in c.args.parts.now).parts) (search rules) c.parts-part-items.ensures in
    let all = c.loop-part.invariant (subst (AllByRecursion (λ (k : Name). SamePart old new k)) (sym c.in-None.ensures.steps.0) tt) in
    record { same = λ part has. covered-keys by_name exact_bytes (λ (k : Name). SamePart old new k) es part all (lists.rows part ∙ has); differs = tt }

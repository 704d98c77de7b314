use Rattle.desk_types.proofs.Common.{◌∙◌, AllByRecursion, by_name, by_pair, CmpEqualImpliesEq, exact_bytes}
use Rattle.desk_types.proofs.Common.{Name, rules, subst, sym}
use Rattle.chain_check.proofs.{Covered.covered-keys, SameRows.beq-same, SameRows.SameAlternate}
use Rattle.state_rows.specs.Kept.{ListsKeys, tables_in}
use Rattle.std.proofs.lemmas.Map.Lookups.{exact_pairs}
use Rattle.chain_check.proofs.tables.alternate_in.Goals as goal

exact : CmpEqualImpliesEq by_pair
exact = exact_pairs by_name by_name exact_bytes exact_bytes

pub loop-part-preserved : goal.loop-part-preserved
loop-part-preserved c = λ rest.
    let old = c.args.old.now in
    let new = c.args.new.now in
    let p = c.in-Some.field-0.now.0 in
    let q = c.in-Some.field-0.now.1 in
    let same : SameAlternate old new (p, q) =
    sym (c.has-of_old.ensures ∙ c.alternate_set.ensures p q) ∙ beq-same _ _ c.if-of_old-has.false ∙ c.has.ensures ∙ c.alternate_set-in-loop-part.ensures p q in
    c.loop-part.invariant (subst (AllByRecursion (λ (k : Name × Name). SameAlternate old new k)) (sym c.in-Some.ensures.steps) (same, rest))

pub returns : goal.returns
returns c =
    let old = c.args.old.now in
    let new = c.args.new.now in
    let es = c.into_iter-part-iterator.result in
    let lists : ListsKeys by_pair es (λ k. (tables_in c.args.alternates.now).alternates k.0 k.1) =
    subst (λ xs. ListsKeys by_pair xs (λ k. (tables_in c.args.alternates.now).alternates k.0 k.1)) (search rules) c.alternates-part-items.ensures in
    let all = c.loop-part.invariant (subst (AllByRecursion (λ (k : Name × Name). SameAlternate old new k)) (sym c.in-None.ensures.steps.0) tt) in
    record { same = λ p q has. covered-keys by_pair exact (λ (k : Name × Name). SameAlternate old new k) es (p, q) all (lists.rows (p, q) ∙ has); differs = tt }

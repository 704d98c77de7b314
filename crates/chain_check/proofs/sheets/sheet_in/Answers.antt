use Rattle.desk_types.proofs.Common.{AllByRecursion, Name, rules, subst, sym, ℕ}
use Rattle.desk_laws.proofs.Common.{SheetRow}
use Rattle.chain_check.proofs.SameSheets.{covered-sheets, SameSheet}
use Rattle.state_rows.specs.Kept.{by_sheet_place, Lists, tables_in}
use Rattle.chain_check.proofs.sheets.sheet_in.Goals as goal

pub loop-key-preserved : goal.loop-key-preserved
loop-key-preserved g c = λ H H' of_old of_new rest.
    c.loop-key.invariant H H' of_old of_new
    (subst (AllByRecursion (λ (e : (Name × Name × ℕ) × SheetRow). SameSheet H H' e.0)) (sym c.in-Some.ensures.steps)
    (c.is_changed.ensures.same H H' of_old of_new c.if-is_changed.false, rest))

pub returns : goal.returns
returns g c =
    let rows = c.args.sheets.now in
    let es = c.into_iter-key-iterator.result in
    let lists : Lists by_sheet_place es (λ k. (tables_in rows).sheets k.0 k.1 k.2) =
    subst (λ xs. Lists by_sheet_place xs (λ k. (tables_in rows).sheets k.0 k.1 k.2)) (search rules) c.sheets-key-items.ensures in
    record {
      same = λ G H H' judged is of_old of_new product machine some.
          covered-sheets G H H' rows es product machine judged is lists
          (c.loop-key.invariant H H' of_old of_new
          (subst (AllByRecursion (λ (e : (Name × Name × ℕ) × SheetRow). SameSheet H H' e.0)) (sym c.in-None.ensures.steps.0) tt)) some;
      differs = λ H H' of_old of_new. tt;
    }

use Rattle.desk_types.proofs.Common.{◌||◌, ◌∙◌, ap, by_name, is_at, list_any, rules, same, subst, sym, Tables}
use Rattle.feeder_state.{proofs.FilledMaps.set-next, proofs.NameSets.put, proofs.RestoredSheets.is_for}
use Rattle.feeder_state.{proofs.RestoredSheets.rows-for, specs.Setup.is_sheeted}
use Rattle.state_rows.specs.Kept.{by_sheet_place, Lists, tables_in}
use Rattle.feeder_state.proofs.setup.rows.sheeted_of.Goals as goal

pub loop-key-init : goal.loop-key-init
loop-key-init c = λ H rows m.
    let es = c.into_iter-key-iterator.result in
    let sheets = (tables_in c.args.rows.now).sheets in
    let lists : Lists by_sheet_place es (λ k. sheets k.0 k.1 k.2) = subst (λ xs. Lists by_sheet_place xs (λ k. sheets k.0 k.1 k.2)) (search rules) c.sheets-key-items.ensures in
    ap (λ names. list_any (is_at (by_name m)) names || is_for m es) c.new-sheeted.ensures.empty
    ∙ rows-for H m es rows.judged (subst (λ f. Lists by_sheet_place es (λ k. f k.0 k.1 k.2)) (ap (λ (t : Tables). t.sheets) rows.tables) lists)

pub loop-key-preserved : goal.loop-key-preserved
loop-key-preserved c = λ H rows m.
    let machine = c.in-Some.key.now.1 in
    let now = is_sheeted c.loop-key.sheeted m in
    set-next now (is_sheeted c.insert.new.self m) (same machine m) (is_for m c.next.new.self) _ (put machine m (is_sheeted c.insert.new.self m) now (c.in_ok-insert.ensures.updates.0 m))
    (ap (λ es. now || is_for m es) (sym c.in-Some.ensures.steps) ∙ c.loop-key.invariant H rows m)

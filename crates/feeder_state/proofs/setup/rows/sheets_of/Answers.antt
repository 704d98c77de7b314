use Rattle.desk_types.proofs.Common.{◌&&◌, ◌==◌, ◌∙◌, ap, by_pair, cond, is_at, lookup, option_and_then}
use Rattle.desk_types.proofs.Common.{option_or, rules, same, sheet_of, Some, subst, sym, Tables}
use Rattle.desk_laws.proofs.Common.{SheetRow}
use Rattle.feeder_state.proofs.RestoredSheets.{first-row, sheet-next}
use Rattle.feeder_state.specs.Setup.{sheet_at}
use Rattle.state_rows.proofs.RowLists.{is_at-by_sheet_place}
use Rattle.state_rows.specs.Kept.{by_sheet_place, Lists, row_at, tables_in}
use Rattle.feeder_state.proofs.setup.rows.sheets_of.Goals as goal

pub loop-key-init : goal.loop-key-init
loop-key-init c = λ H rows p m.
    let es = c.into_iter-key-iterator.result in
    let sheets = (tables_in c.args.rows.now).sheets in
    let lists : Lists by_sheet_place es (λ k. sheets k.0 k.1 k.2) = subst (λ xs. Lists by_sheet_place xs (λ k. sheets k.0 k.1 k.2)) (search rules) c.sheets-key-items.ensures in
    ap (λ entries. option_or (lookup (is_at (by_pair (p, m))) entries) (option_and_then (λ (row : SheetRow). sheet_of H p m) (row_at by_sheet_place es (p, m, 1)))) c.new-sheets.ensures.empty
    ∙ ap (option_and_then (λ (row : SheetRow). sheet_of H p m)) (lists.rows (p, m, 1) ∙ ap (λ (t : Tables). t.sheets p m 1) rows.tables)
    ∙ first-row H p m rows.judged

pub loop-key-preserved : goal.loop-key-preserved
loop-key-preserved c = λ H rows p m.
    let key = c.in-Some.key.now in
    let row = c.in-Some.field-0-1.now in
    let left = row_at by_sheet_place c.next.new.self (p, m, 1) in
    let now = sheet_at c.loop-key.sheets p m in
    sheet-next (sheet_of H p m) now _ (same p key.0 && same m key.1 && (1 == key.2)) row left (c.in_ok-put_first.ensures H rows p m)
    (ap (λ b. option_or now (option_and_then (λ (r : SheetRow). sheet_of H p m) (cond b (Some row) left))) (sym (is_at-by_sheet_place (p, m, 1) key))
    ∙ ap (λ es. option_or now (option_and_then (λ (r : SheetRow). sheet_of H p m) (row_at by_sheet_place es (p, m, 1)))) (sym c.in-Some.ensures.steps)
    ∙ c.loop-key.invariant H rows p m)

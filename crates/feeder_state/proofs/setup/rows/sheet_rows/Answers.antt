use Rattle.desk_types.proofs.Common.{[], ◌++◌, ◌+◌, ◌∙◌, ◌∷◌, ◌≡◌, ap, None, rules, sheet_of, Some, sym}
use Rattle.desk_types.proofs.Common.{Tables, take, unwrap_or}
use Rattle.desk_types.specs.{Tables.sheet_row, declared.limits.TheConstants.LONGEST_LIST}
use Rattle.feeder_state.proofs.RestoredSheets.{row-more, rows-all, rows-end, sheet-made}
use Rattle.std.specs.Option.{option_copied}
use Rattle.feeder_state.proofs.setup.rows.sheet_rows.Goals as goal

pub loop-index-preserved : goal.loop-index-preserved
loop-index-preserved c = λ H rows.
    let i = c.loop-index.index in
    let product = c.args.product.now in
    let machine = c.args.machine.now in
    let row = c.in-Some.row.now in
    let copy : c.in_ok-copy.copy ≡ row = search rules in
    let told : sheet_row H product machine (i + 1) ≡ Some row =
    ap (λ (t : Tables). t.sheets product machine (i + 1)) (sym rows.tables) ∙ sym c.sheet_row.ensures ∙ ap option_copied c.in-Some.is in
    c.in_ok-push.ensures.items
    ∙ ap (λ xs. xs ++ c.in_ok-copy.copy ∷ []) (c.loop-index.invariant H rows)
    ∙ ap (λ r. take i (unwrap_or (sheet_of H product machine) []) ++ r ∷ []) copy
    ∙ sym (row-more H product machine i row told)

pub returns-in_default : goal.returns-in_default
returns-in_default c = λ H rows.
    let i = c.loop-index.index in
    let product = c.args.product.now in
    let machine = c.args.machine.now in
    let told : sheet_row H product machine (i + 1) ≡ None =
    ap (λ (t : Tables). t.sheets product machine (i + 1)) (sym rows.tables) ∙ sym c.sheet_row.ensures ∙ ap option_copied c.in_default.is in
    sheet-made H product machine _ _ rows.judged (c.loop-index.invariant H rows ∙ rows-end H product machine i told) c.new.ensures

pub returns : goal.returns
returns c = λ H rows.
    let product = c.args.product.now in
    let machine = c.args.machine.now in
    let all : c.loop-index.index ≡ LONGEST_LIST = search rules in
    sheet-made H product machine _ _ rows.judged
    (c.loop-index.invariant H rows ∙ ap (λ n. take n (unwrap_or (sheet_of H product machine) [])) all ∙ rows-all H product machine rows.judged) c.new-2.ensures

use Rattle.desk_types.proofs.Common.{[], ◌++◌, ◌+◌, ◌∙◌, ◌∷◌, ◌≡◌, ap, rules}
use Rattle.desk_laws.proofs.Common.{SheetRow}
use Rattle.desk_types.specs.declared.edit.RowEdit.TheVariants.{PutSheetRow}
use Rattle.state_rows.proofs.PushedEdits.{put-next}
use Rattle.state_rows.proofs.sheets.put_new.Goals as goal

pub loop-index-preserved : goal.loop-index-preserved
loop-index-preserved c =
    let copy : c.in_ok-row.row ≡ c.index-rows-index.result = search rules in
    c.in_ok-push.ensures.items
    ∙ ap (λ (r : SheetRow). c.loop-index.edits.items ++ PutSheetRow c.args.product.now c.args.machine.now (c.loop-index.index + 1) r ∷ []) copy
    ∙ put-next c.args.product.now c.args.machine.now c.args.rows.now c.loop-index.index c.index-rows-index.result c.args.edits.now.items c.loop-index.edits.items
    c.loop-index-test.true c.index-rows-index.is c.loop-index.invariant

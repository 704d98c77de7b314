use Rattle.desk_types.proofs.Common.{◌∙◌, ap, cond, list_any, name-written, same, Some, sym, take, take-next}
use Rattle.setup_sheets.{proofs.SheetLookUps.slot-push, specs.LookUps.slot_at}
use Rattle.setup_sheets.proofs.look_ups.note_row.Goals as goal

pub loop-designator-preserved : goal.loop-designator-preserved
loop-designator-preserved c = λ d.
    let ds = c.as_slice-designator-items.result.now in
    let i = c.loop-designator.designator-index in
    let x = c.designator-item.result in
    slot-push (slot_at c.loop-designator.slots d) (take i ds) x d c.args.row.now.slot (slot_at c.insert.new.self d) (slot_at c.args.slots.now d)
    (c.loop-designator.invariant d) (name-written _ _ x _ (λ o. o) c.in_ok-insert.ensures.updates.0 d)
    ∙ ap (λ names. cond (list_any (same d) names) (Some c.args.row.now.slot) (slot_at c.args.slots.now d))
    (sym (take-next ds i x c.loop-designator-test.true c.designator-item.is))

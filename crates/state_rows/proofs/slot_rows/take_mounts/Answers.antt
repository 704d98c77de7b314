use Rattle.desk_types.proofs.Common.{◌++◌, ◌∙◌, ap, map, option_to_list}
use Rattle.desk_types.specs.declared.edit.RowEdit.TheVariants.{TakeMount}
use Rattle.state_rows.proofs.PushedEdits.{mount-next}
use Rattle.state_rows.proofs.slot_rows.take_mounts.Goals as goal

pub loop-mount-preserved : goal.loop-mount-preserved
loop-mount-preserved c =
    c.in_ok-take_if.ensures
    ∙ ap (λ o. c.loop-mount.edits.items ++ map (λ r. TakeMount r) (option_to_list o)) c.on_slot.ensures
    ∙ mount-next c.args.slot.now c.args.mounts.now c.loop-mount.mount-index c.mount-item.result c.args.edits.now.items c.loop-mount.edits.items
    c.loop-mount-test.true c.mount-item.is c.loop-mount.invariant

use Rattle.desk_types.proofs.Common.{◌∙◌, ap, append-nil, Global, None, Some, sym, Vec}
use Rattle.desk_types.specs.declared.row.PlacementRow.{PlacementRow}
use Rattle.line_replay.proofs.ExpectedRows.{placements-next}
use Rattle.line_replay.proofs.placed.placements_by.Goals.{in-None, in-Some+in_ok-push-in-Some}
use Rattle.line_replay.proofs.placed.placements_by.Goals as goal

pub loop-edit-preserved : goal.loop-edit-preserved
loop-edit-preserved c = elim c.match-placement_by.branch [
  | in-Some+in_ok-push-in-Some w ↦
      ap (λ (v : Vec PlacementRow Global). v.items) w.rows-is ∙ w.in_ok-push-in-Some.ensures.items
      ∙ placements-next c.args.edits.now c.loop-edit.edit-index c.edit-item.result c.loop-edit.rows.items (Some w.in-Some.row) c.loop-edit-test.true c.edit-item.is c.loop-edit.invariant
      (sym c.placement_by.ensures ∙ w.in-Some.is)
  | in-None w ↦
      ap (λ (v : Vec PlacementRow Global). v.items) w.rows-is ∙ sym (append-nil c.loop-edit.rows.items)
      ∙ placements-next c.args.edits.now c.loop-edit.edit-index c.edit-item.result c.loop-edit.rows.items None c.loop-edit-test.true c.edit-item.is c.loop-edit.invariant
      (sym c.placement_by.ensures ∙ w.in-None.is)
]

use Rattle.desk_types.proofs.Common.{◌∙◌, ap, sym, with_edit}
use Rattle.state_rows.{proofs.EditLists.edits-next, specs.Kept.tables_in}
use Rattle.state_rows.proofs.set.RowSet.apply.Goals as goal

pub loop-edit-preserved : goal.loop-edit-preserved
loop-edit-preserved c =
    c.in_ok-make.ensures
    ∙ ap (with_edit c.edit-item.result) c.loop-edit.invariant
    ∙ sym (edits-next c.args.edits.now c.loop-edit.edit-index c.edit-item.result (tables_in c.args.self.now) c.loop-edit-test.true c.edit-item.is)

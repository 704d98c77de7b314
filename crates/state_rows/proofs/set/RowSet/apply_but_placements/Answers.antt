use Rattle.state_rows.{proofs.RowLists.but-next, specs.Kept.tables_in}
use Rattle.state_rows.proofs.set.RowSet.apply_but_placements.Goals as goal

pub loop-edit-preserved : goal.loop-edit-preserved
loop-edit-preserved c =
    but-next c.args.edits.now c.loop-edit.edit-index c.edit-item.result (tables_in c.args.self.now) (tables_in c.loop-edit.self) _ c.loop-edit-test.true c.edit-item.is
    c.loop-edit.invariant c.in_ok-make_but_placement.ensures

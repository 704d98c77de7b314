use Rattle.desk_types.proofs.Common.{◌∙◌}
use Rattle.state_rows.proofs.RowsLess.{place-next}
use Rattle.state_rows.proofs.takes.place_all.Goals as goal

pub loop-index-preserved : goal.loop-index-preserved
loop-index-preserved c =
    c.in_ok-place.ensures
    ∙ place-next c.args.number c.args.takes.now c.loop-index.index c.index-takes-index.result c.args.edits.now.items c.loop-index.edits.items
    c.loop-index-test.true c.index-takes-index.is c.loop-index.invariant

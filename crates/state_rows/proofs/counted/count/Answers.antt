use Rattle.desk_types.proofs.Common.{◌∙◌}
use Rattle.state_rows.proofs.PushedEdits.{count-next}
use Rattle.state_rows.proofs.counted.count.Goals as goal

pub loop-row-preserved : goal.loop-row-preserved
loop-row-preserved g c = λ B stands.
    c.in_ok-count_row.ensures B stands
    ∙ count-next B.history c.args.rows.now c.loop-row.row-index c.row-item.result c.loop-row.edits.items c.loop-row-test.true c.row-item.is (c.loop-row.invariant B stands)

use Rattle.desk_types.proofs.Common.{◌+◌, arith, rules, subst, sym, take}
use Rattle.line_tables.proofs.Common.{ArePlacing, bound, row_edits}
use Rattle.line_tables.proofs.Placing.{placing_more}
use Rattle.line_tables.proofs.pieces.values_of_all.Goals as goal

pub loop-edit-preserved : goal.loop-edit-preserved
loop-edit-preserved c =
    subst (ArePlacing (row_edits (take (c.loop-edit.edit-index + 1) c.args.edits.now))) (sym c.in_ok-add_values.ensures.ok)
    (placing_more c.args.edits.now c.loop-edit.edit-index c.edit-item.result c.in-PutPlacement.row (bound c.loop-edit.values.items) (search arith) (search rules) (search rules) c.loop-edit.invariant)

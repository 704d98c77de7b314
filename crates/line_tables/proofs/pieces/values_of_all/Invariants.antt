use Rattle.desk_types.proofs.Common.{take}
use Rattle.line_tables.proofs.Common.{ArePlacing, bound, row_edits}
use Rattle.line_tables.proofs.pieces.values_of_all.Given as goal

abbrev pub invariant-loop-edit : goal.invariant-loop-edit
invariant-loop-edit l = ArePlacing (row_edits (take l.edit-index l.edits)) (bound l.values.items)

use Rattle.desk_types.proofs.Common.{◌≡◌, take, with_edits}
use Rattle.state_rows.specs.Kept.{but_placements, tables_in}
use Rattle.state_rows.proofs.set.RowSet.apply_but_placements.Given as goal

abbrev pub invariant-loop-edit : goal.invariant-loop-edit
invariant-loop-edit l = tables_in l.self ≡ but_placements (with_edits (take l.edit-index l.edits) (tables_in l.initial.self)) (tables_in l.initial.self)

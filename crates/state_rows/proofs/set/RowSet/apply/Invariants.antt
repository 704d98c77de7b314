use Rattle.desk_types.proofs.Common.{◌≡◌, take, with_edits}
use Rattle.state_rows.specs.Kept.{tables_in}
use Rattle.state_rows.proofs.set.RowSet.apply.Given as goal

abbrev pub invariant-loop-edit : goal.invariant-loop-edit
invariant-loop-edit l = tables_in l.self ≡ with_edits (take l.edit-index l.edits) (tables_in l.initial.self)

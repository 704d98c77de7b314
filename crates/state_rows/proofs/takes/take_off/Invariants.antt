use Rattle.desk_types.proofs.Common.{◌++◌, ◌≡◌, flat_map, values}
use Rattle.state_rows.specs.EditsOf.{take_spent}
use Rattle.state_rows.proofs.takes.take_off.Given as goal

abbrev pub invariant-loop-row : goal.invariant-loop-row
invariant-loop-row l =
    l.edits.items ++ flat_map take_spent l.row-iterator ≡ l.initial.edits.items ++ flat_map take_spent (values l.rows)

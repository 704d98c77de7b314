use Rattle.desk_types.proofs.Common.{◌++◌, ◌≡◌, take}
use Rattle.state_rows.specs.EditsOf.{taken_rows}
use Rattle.state_rows.proofs.sheets.take_old.Given as goal

abbrev pub invariant-loop-index : goal.invariant-loop-index
invariant-loop-index l = l.edits.items ≡ l.initial.edits.items ++ taken_rows l.product l.machine 1 (take l.index l.rows)

use Rattle.desk_types.proofs.Common.{◌++◌, ◌≡◌, take}
use Rattle.state_rows.specs.EditsOf.{put_rows}
use Rattle.state_rows.proofs.sheets.put_new.Given as goal

abbrev pub invariant-loop-index : goal.invariant-loop-index
invariant-loop-index l = l.edits.items ≡ l.initial.edits.items ++ put_rows l.product l.machine 1 (take l.index l.rows)

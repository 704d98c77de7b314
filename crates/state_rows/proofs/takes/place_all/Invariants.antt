use Rattle.desk_types.proofs.Common.{◌++◌, ◌≡◌, take}
use Rattle.state_rows.specs.EditsOf.{place_rows}
use Rattle.state_rows.proofs.takes.place_all.Given as goal

abbrev pub invariant-loop-index : goal.invariant-loop-index
invariant-loop-index l = l.edits.items ≡ l.initial.edits.items ++ place_rows l.number 1 (take l.index l.takes)

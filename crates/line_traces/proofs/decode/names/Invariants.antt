use Rattle.desk_types.proofs.Common.{◌≡◌, map, take}
use Rattle.line_traces.specs.Committed.{name_row}
use Rattle.line_traces.proofs.decode.names.Given as goal

abbrev pub invariant-loop-row : goal.invariant-loop-row
invariant-loop-row l = take l.row-index l.rows ≡ map name_row l.names.items

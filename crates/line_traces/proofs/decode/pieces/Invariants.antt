use Rattle.desk_types.proofs.Common.{◌≡◌, map, take}
use Rattle.line_traces.specs.Committed.{placed_columns}
use Rattle.line_traces.proofs.decode.pieces.Given as goal

abbrev pub invariant-loop-row : goal.invariant-loop-row
invariant-loop-row l = take l.row-index l.rows ≡ map placed_columns l.pieces.items

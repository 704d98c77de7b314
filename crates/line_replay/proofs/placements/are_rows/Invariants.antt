use Rattle.desk_types.proofs.Common.{◌≡◌, map, take}
use Rattle.line_tables.proofs.Common.{placement_columns}
use Rattle.line_replay.proofs.placements.are_rows.Given as goal

abbrev pub invariant-loop-at : goal.invariant-loop-at
invariant-loop-at l = take l.at l.shown ≡ take l.at (map placement_columns l.rows)

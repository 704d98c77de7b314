use Rattle.desk_types.proofs.Common.{◌≡◌, take}
use Rattle.line_tables.proofs.Common.{values_of}
use Rattle.line_replay.proofs.shown.is_row.Given as goal

abbrev pub invariant-loop-at : goal.invariant-loop-at
invariant-loop-at l = take l.at l.row ≡ take l.at (values_of l.wanted)

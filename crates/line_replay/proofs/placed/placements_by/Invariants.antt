use Rattle.desk_types.proofs.Common.{◌≡◌, take}
use Rattle.line_replay.specs.Expected.{placements_by}
use Rattle.line_replay.proofs.placed.placements_by.Given as goal

abbrev pub invariant-loop-edit : goal.invariant-loop-edit
invariant-loop-edit l = l.rows.items ≡ placements_by (take l.edit-index l.edits)

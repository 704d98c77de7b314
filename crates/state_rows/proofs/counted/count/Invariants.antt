use Rattle.desk_types.proofs.Common.{◌≡◌, Basis, flat_map, take}
use Rattle.state_rows.specs.EditsOf.{count_edits}
use Rattle.state_rows.proofs.counted.count.Given as goal

abbrev pub invariant-loop-row : goal.invariant-loop-row
invariant-loop-row g l = (B : Basis) → g.D.Views.Stands l.desk B
    → l.edits.items ≡ flat_map (count_edits B.history) (take l.row-index l.rows)

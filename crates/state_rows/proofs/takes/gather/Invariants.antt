use Rattle.desk_types.proofs.Common.{◌≡◌, Basis, by_name, get, map, Name, reel_row, take}
use Rattle.state_rows.specs.EditsOf.{pick_of, picked_rows}
use Rattle.state_rows.proofs.takes.gather.Given as goal

abbrev pub invariant-loop-take : goal.invariant-loop-take
invariant-loop-take g l = (B : Basis) → g.D.Views.Stands l.desk B
    → (r : Name) → get by_name l.rows r ≡ picked_rows (reel_row B.history) (map pick_of (take l.take-index l.takes)) r

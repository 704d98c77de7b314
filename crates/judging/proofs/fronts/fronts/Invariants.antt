use Rattle.desk_types.proofs.Common.{◌≡◌, front_at, History, map, take}
use Rattle.judging.proofs.fronts.fronts.Given as goal

abbrev pub invariant-loop-row : goal.invariant-loop-row
invariant-loop-row g l = (H : History) → g.F.Facts.Stands l.facts H → l.fronts.items ≡ map (front_at H l.minute l.machine) (take l.row-index l.row-items)

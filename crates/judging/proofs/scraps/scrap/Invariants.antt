use Rattle.desk_types.proofs.Common.{◌++◌, ◌-◌, ◌≡◌, drop, History, left_of, scrap_picks, sum_by}
use Rattle.desk_laws.proofs.Common.{Rejected}
use Rattle.judging.proofs.scraps.scrap.Given as goal

-- The picks so far with those of the remaining reels are all, with the same pieces missing at the
-- end.
abbrev pub invariant-loop-index : goal.invariant-loop-index
invariant-loop-index g l = let reels = g.F.Facts.reels_on l.facts l.machine l.slot in (H : History) → g.F.Facts.Stands l.facts H → record {
  picks : l.picks.items ++ scrap_picks (left_of H) (Rejected l.machine l.slot) (drop l.index reels) l.wanting
      ≡ scrap_picks (left_of H) (Rejected l.machine l.slot) reels l.quantity;
  wanting : l.wanting - sum_by (left_of H) (drop l.index reels) ≡ l.quantity - sum_by (left_of H) reels;
}

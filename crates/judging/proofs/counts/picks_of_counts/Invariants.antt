use Rattle.desk_types.proofs.Common.{[], ◌++◌, ◌≡◌, count_picks, counts_refusal, drop, History, left_of, map}
use Rattle.desk_types.proofs.Common.{take}
use Rattle.desk_laws.proofs.Common.{CountRow}
use Rattle.setup_sheets.specs.Names.{HasSeen}
use Rattle.judging.proofs.counts.picks_of_counts.Given as goal

-- The rows so far have no fault and these picks; the others decide the refusal and add the rest.
abbrev pub invariant-loop-row : goal.invariant-loop-row
invariant-loop-row g l = (H : History) → g.F.Facts.Stands l.facts H → record {
  seen : HasSeen l.seen (map (λ (row : CountRow). row.reel) (take l.row-index l.rows));
  refusal : counts_refusal l.rules H (map (λ (row : CountRow). row.reel) (take l.row-index l.rows)) (drop l.row-index l.rows) ≡ counts_refusal l.rules H [] l.rows;
  picks : l.picks.items ++ count_picks (left_of H) (drop l.row-index l.rows) ≡ count_picks (left_of H) l.rows;
}

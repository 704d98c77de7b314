use Rattle.desk_types.proofs.Common.{[], ◌≡◌, bench_of, designators_refusal, drop, History, install_picks}
use Rattle.desk_types.proofs.Common.{is_placed_on, left_of, live_on, take}
use Rattle.judging.specs.Placing.{IsFeeding}
use Rattle.setup_sheets.specs.Names.{HasSeen}
use Rattle.judging.proofs.placing.place_all.Given as goal

-- The designators so far have no fault and these picks; the others decide the refusal and add the
-- rest.
abbrev pub invariant-loop-designator : goal.invariant-loop-designator
invariant-loop-designator g l = (H : History) → g.F.Facts.Stands l.facts H → record {
  feeds : IsFeeding (live_on H l.machine) (left_of H) (g.F.Facts.reels_on l.facts l.machine) l.picks.items l.feeds;
  seen : HasSeen l.seen (take l.designator-index l.designators);
  refusal : designators_refusal (bench_of H l.machine l.board) (is_placed_on H l.board) l.picks.items
      (take l.designator-index l.designators) (drop l.designator-index l.designators)
      ≡ designators_refusal (bench_of H l.machine l.board) (is_placed_on H l.board) [] [] l.designators;
  picks : install_picks (bench_of H l.machine l.board) l.picks.items (drop l.designator-index l.designators)
      ≡ install_picks (bench_of H l.machine l.board) [] l.designators;
}

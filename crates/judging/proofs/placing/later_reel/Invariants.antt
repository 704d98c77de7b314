use Rattle.desk_types.proofs.Common.{◌≡◌, History, left_of}
use Rattle.judging.specs.Placing.{live_past}
use Rattle.judging.proofs.placing.later_reel.Given as goal

-- The reels passed so far are spent.
abbrev pub invariant-loop-place : goal.invariant-loop-place
invariant-loop-place g l = let reels = g.F.Facts.reels_on l.facts l.machine l.slot in (H : History) → g.F.Facts.Stands l.facts H
    → live_past (left_of H) reels l.past ≡ live_past (left_of H) reels l.place

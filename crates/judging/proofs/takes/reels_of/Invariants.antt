use Rattle.desk_types.proofs.Common.{◌≡◌, reels_of, take}
use Rattle.judging.proofs.takes.reels_of.Given as goal

abbrev pub invariant-loop-pick : goal.invariant-loop-pick
invariant-loop-pick l = l.reels.items ≡ reels_of (take l.pick-index l.picks)

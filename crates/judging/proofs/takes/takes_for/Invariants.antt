use Rattle.desk_types.proofs.Common.{◌≡◌, History, map, take, take_of}
use Rattle.judging.proofs.takes.takes_for.Given as goal

abbrev pub invariant-loop-pick : goal.invariant-loop-pick
invariant-loop-pick g l = (H : History) → g.F.Facts.Stands l.facts H → l.takes.items ≡ map (take_of H l.minute) (take l.pick-index l.picks)

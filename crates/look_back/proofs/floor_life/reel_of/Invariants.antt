use Rattle.desk_types.proofs.Common.{reverse, take}
use Rattle.reels.specs.Reel.{IsReelOf}
use Rattle.look_back.proofs.floor_life.reel_of.Given as goal

abbrev pub invariant-loop-entry : goal.invariant-loop-entry
invariant-loop-entry l = IsReelOf (reverse (take l.entry-index l.entries)) l.name l.reel

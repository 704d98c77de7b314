use Rattle.desk_types.proofs.Common.{◌≡◌, by_turn, filter, in_order, is_free, map, reels_received, reverse}
use Rattle.desk_types.proofs.Common.{take}
use Rattle.judging.specs.Turns.{turn_of}
use Rattle.look_back.proofs.free.turns.Given as goal

abbrev pub invariant-loop-entry : goal.invariant-loop-entry
invariant-loop-entry l = l.turns.keys ≡ map (turn_of (reverse l.entries))
    (in_order (by_turn (reverse l.entries)) (filter (is_free (reverse l.entries) l.part) (reels_received (reverse (take l.entry-index l.entries)))))

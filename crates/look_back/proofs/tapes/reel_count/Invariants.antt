use Rattle.desk_types.proofs.Common.{◌≡◌, ◌≤◌, length, reverse, take, tape_of}
use Rattle.look_back.proofs.tapes.reel_count.Given as goal

abbrev pub invariant-loop-entry : goal.invariant-loop-entry
invariant-loop-entry l = (l.count ≡ length (tape_of (reverse (take l.entry-index l.entries)) l.machine l.slot)) × (l.count ≤ l.entry-index)

use Rattle.desk_types.proofs.Common.{◌≡◌, loaded_slots, reverse, take}
use Rattle.look_back.proofs.slots.loaded_slots.Given as goal

abbrev pub invariant-loop-entry : goal.invariant-loop-entry
invariant-loop-entry l = l.slots.keys ≡ loaded_slots (reverse (take l.entry-index l.entries)) l.machine

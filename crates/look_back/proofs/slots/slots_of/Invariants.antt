use Rattle.desk_types.proofs.Common.{◌≡◌, flat_map, reverse, slot_mounts, take}
use Rattle.look_back.proofs.slots.slots_of.Given as goal

abbrev pub invariant-loop-slot : goal.invariant-loop-slot
invariant-loop-slot l = l.mounts.items ≡ flat_map (slot_mounts (reverse l.entries) l.machine) (take l.slot-index l.slot-items)

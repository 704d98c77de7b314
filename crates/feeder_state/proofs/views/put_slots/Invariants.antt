use Rattle.desk_types.proofs.Common.{◌++◌, ◌≡◌, flat_map, History, keys_of, slot_mounts, Some}
use Rattle.feeder_state.{proofs.SlotsOfMachines.slots_among, specs.Floor.IsFloor, specs.Rows.AreRowsAt}
use Rattle.feeder_state.proofs.views.put_slots.Given as goal

abbrev pub invariant-loop-key : goal.invariant-loop-key
invariant-loop-key l = (H : History) → AreRowsAt H (Some l.minute) l.rows → IsFloor H l.floor → l.mounts.items ++ flat_map (slot_mounts H l.machine) (slots_among l.machine (keys_of l.key-iterator))
    ≡ l.initial.mounts.items ++ flat_map (slot_mounts H l.machine) (slots_among l.machine (keys_of l.floor.tapes.entries))

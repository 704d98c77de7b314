use Rattle.desk_types.proofs.Common.{◌++◌, ◌≡◌, History, live_on, Name}
use Rattle.feeder_state.specs.{Restored.AreRowsOf, Tape.tape_at}
use Rattle.state_rows.proofs.SlotRows.{slot_reels}
use Rattle.feeder_state.proofs.floor.rows.tapes_of.Given as goal

-- The reels of a slot that are joined, and those that are left to join.
abbrev pub invariant-loop-row : goal.invariant-loop-row
invariant-loop-row l = (H : History) → AreRowsOf H l.rows → (m s : Name) → tape_at l.tapes m s ++ slot_reels m s l.row-iterator ≡ live_on H m s

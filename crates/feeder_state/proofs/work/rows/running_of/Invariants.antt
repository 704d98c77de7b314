use Rattle.desk_types.proofs.Common.{History, in_work_on, Name}
use Rattle.feeder_state.proofs.{FilledMaps.AreOf, RestoredWork.IsRunning}
use Rattle.feeder_state.specs.{Restored.AreRowsOf, Work.running_at}
use Rattle.state_rows.specs.Kept.{tables_in}
use Rattle.feeder_state.proofs.work.rows.running_of.Given as goal

abbrev pub invariant-loop-board : goal.invariant-loop-board
invariant-loop-board l = AreOf (tables_in l.rows).boards l.board-iterator
    × ((H : History) → AreRowsOf H l.rows → (m : Name) → IsRunning l.board-iterator (in_work_on H m) (running_at l.running m))

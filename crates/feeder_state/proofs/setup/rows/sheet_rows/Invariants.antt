use Rattle.desk_types.proofs.Common.{[], ◌≡◌, History, sheet_of, take, unwrap_or}
use Rattle.feeder_state.specs.Restored.{AreRowsOf}
use Rattle.feeder_state.proofs.setup.rows.sheet_rows.Given as goal

abbrev pub invariant-loop-index : goal.invariant-loop-index
invariant-loop-index l = (H : History) → AreRowsOf H l.rows → l.items.items ≡ take l.index (unwrap_or (sheet_of H l.product l.machine) [])

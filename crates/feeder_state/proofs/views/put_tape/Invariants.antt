use Rattle.desk_types.proofs.Common.{◌++◌, ◌≡◌, All, enumerate_from, History, is_some, map, mount_of}
use Rattle.desk_types.proofs.Common.{receipt_of, Some, take, true}
use Rattle.feeder_state.specs.Rows.{AreRowsAt}
use Rattle.feeder_state.proofs.views.put_tape.Given as goal

abbrev pub invariant-loop-index : goal.invariant-loop-index
invariant-loop-index l = (H : History) → AreRowsAt H (Some l.minute) l.rows → All (λ name. is_some (receipt_of H name) ≡ true) l.tape
    → l.mounts.items ≡ l.initial.mounts.items ++ map (mount_of H l.slot) (enumerate_from 1 (take l.index l.tape))

use Rattle.desk_types.proofs.Common.{◌-◌, ◌≡◌, ◌≤◌, Appends, failures_of, inner_of, length, take}
use Rattle.desk_answers.proofs.sending.send.Given as goal

abbrev pub invariant-loop-at : goal.invariant-loop-at
invariant-loop-at g l = (l.at ≤ length l.bytes) × (failures_of l.wire ≡ failures_of l.fn.wire)
    × Appends (g.W.Write.contents (inner_of l.fn.wire)) (g.W.Write.contents (inner_of l.wire)) (take l.at l.bytes)

abbrev pub decreases-loop-at : goal.decreases-loop-at
decreases-loop-at g l = length l.bytes - l.at

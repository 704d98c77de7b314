use Rattle.desk_types.proofs.Common.{◌≡◌, list_any, Name, not, take}
use Rattle.feeder_state.specs.{Rows.left_at, Spending.is_spent_by, Tape.tape_at}
use Rattle.std.specs.List.{filter}
use Rattle.feeder_state.proofs.tapes.drop_all_spent.Given as goal

-- The reels that the takes so far spent are off their slots.
abbrev pub invariant-loop-take : goal.invariant-loop-take
invariant-loop-take l = (m s : Name) →
    tape_at l.tapes m s ≡ filter (λ r. not (list_any (is_spent_by (left_at l.rows) m s r) (take l.take-index l.takes))) (tape_at l.initial.tapes m s)

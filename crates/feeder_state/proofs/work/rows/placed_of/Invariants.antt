use Rattle.desk_types.proofs.Common.{◌||◌, ◌≡◌, list_any, Name, same}
use Rattle.feeder_state.{proofs.RestoredWork.has_such, specs.Work.is_placed_at}
use Rattle.feeder_state.proofs.work.rows.placed_of.Given as goal

-- The designators that are in, or are left to be put in.
abbrev pub invariant-loop-board : goal.invariant-loop-board
invariant-loop-board l = (b d : Name) → (is_placed_at l.placed b d || has_such (list_any (same d)) b l.board-iterator) ≡ has_such (list_any (same d)) b l.initial.board-iterator

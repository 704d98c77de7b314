use Rattle.desk_types.proofs.Common.{◌||◌, ◌≡◌, is_some, list_any, Name, same, take, true}
use Rattle.feeder_state.specs.Resting.{rests_at}
use Rattle.state_rows.specs.Kept.{tables_in}
use Rattle.feeder_state.proofs.resting.put_tape.Given as goal

abbrev pub invariant-loop-i : goal.invariant-loop-i
invariant-loop-i l = (r : Name) → is_some ((tables_in l.rows).reels r) ≡ true
    → rests_at l.rows l.resting r ≡ (list_any (same r) (take l.i l.tape) || rests_at l.rows l.initial.resting r)

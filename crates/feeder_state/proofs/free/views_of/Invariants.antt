use Rattle.desk_types.proofs.Common.{◌++◌, ◌≡◌, filter_map, History, reel_view, Some}
use Rattle.feeder_state.specs.Rows.{AreRowsAt}
use Rattle.feeder_state.proofs.free.views_of.Given as goal

abbrev pub invariant-loop-turn : goal.invariant-loop-turn
invariant-loop-turn l = (H : History) → AreRowsAt H (Some l.minute) l.rows
    → l.views.items ++ filter_map (λ turn. reel_view H turn.1) l.turn-iterator ≡ filter_map (λ turn. reel_view H turn.1) l.turns.keys

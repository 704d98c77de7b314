use Rattle.desk_types.proofs.Common.{◌≡◌, filter_map, reel_view, reverse, take}
use Rattle.look_back.proofs.free.free_reels.Given as goal

abbrev pub invariant-loop-turn : goal.invariant-loop-turn
invariant-loop-turn l = l.views.items ≡ filter_map (λ turn. reel_view (reverse l.entries) turn.1) (take l.turn-index l.turn-items)

use Rattle.desk_types.proofs.Common.{◌≡◌, map, take}
use Rattle.serde_json.specs.View.{view}
use Rattle.line_members.specs.NamedReels.{reel_of}
use Rattle.line_members.proofs.named_reels.reels_of.Given as goal

-- The items so far are read.
abbrev pub invariant-loop-item : goal.invariant-loop-item
invariant-loop-item l = l.reels.items ≡ map (λ item. reel_of (view item)) (take l.item-index l.items)

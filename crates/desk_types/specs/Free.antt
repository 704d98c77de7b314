-- Free reels: those that can be loaded for a part, in the order of use.
use Rattle.std.specs.Prelude.{Bool, not, ◌&&◌, nat_lt, Option, Some, None, List, [], ◌∷◌}
use Rattle.std.specs.List.{filter, filter_map}
use Rattle.std.specs.BTreeSet.{insert_key}
use Rattle.std.specs.Ordering.{nat_cmp, ordering_then}
use Rattle.std.specs.declared.cmp.Ordering.{Ordering}
use Rattle.std.specs.declared.cmp.Ordering.TheVariants.{Less, Equal, Greater}
use Rattle.desk_types.specs.declared.command.Command.{Command}
use Rattle.desk_types.specs.declared.command.Command.TheVariants.{ReelReceived}
use Rattle.desk_types.specs.declared.command.Entry.{Entry}
use Rattle.desk_types.specs.declared.view.Left.{Left}
use Rattle.desk_types.specs.declared.view.Left.TheVariants.{Minutes, Unlimited, Unbaked}
use Rattle.desk_types.specs.declared.view.ReelView.{ReelView}
use Rattle.desk_types.specs.Id.{Name, by_name}
use Rattle.desk_types.specs.History.{History, now_of}
use Rattle.desk_types.specs.Setup.{is_allowed}
use Rattle.desk_types.specs.Pieces.{left_of, is_mounted}
use Rattle.desk_types.specs.FloorLife.{is_expired, is_unbaked}
use Rattle.desk_types.specs.View.{part_of, life_left, reel_view}

-- ---- selection

-- The reel that the command receives.
abbrev pub received_by : Command → Option Name
received_by (ReelReceived reel part lot moisture quantity) = Some reel
received_by _ = None

-- The received reels.
abbrev pub reels_received : History → List Name
reels_received H = filter_map (λ (e : Entry). received_by e.stamped.command) H

-- Whether the reel can be loaded for the part now: it is allowed, not mounted, not empty, neither
-- unbaked nor expired.
abbrev pub is_free : History → Name → Name → Bool
is_free H part reel =
    is_allowed H part (part_of H reel)
    && not (is_mounted H reel)
    && nat_lt 0 (left_of H reel)
    && not (is_unbaked H reel)
    && not (is_expired H reel (now_of H))

-- ---- order

-- Fewer minutes first, then unlimited, then reels that wait for their bake.
abbrev pub by_left : Left → Left → Ordering
by_left (Minutes a) (Minutes b) = nat_cmp a b
by_left (Minutes a) _ = Less
by_left Unlimited (Minutes b) = Greater
by_left Unlimited Unlimited = Equal
by_left Unlimited Unbaked = Less
by_left Unbaked Unbaked = Equal
by_left Unbaked _ = Greater

-- The order of reels: by remaining floor life, then by name.
abbrev pub by_turn : History → Name → Name → Ordering
by_turn H a b = ordering_then (by_left (life_left H a) (life_left H b)) (by_name a b)

-- The names in this order, without duplicates.
abbrev pub in_order : (Name → Name → Ordering) → List Name → List Name
in_order order [] = []
in_order order (x ∷ xs) = insert_key order (in_order order xs) x

-- The free reels for the part, in order.
abbrev pub free_reels : History → Name → List ReelView
free_reels H part =
    filter_map (reel_view H) (in_order (by_turn H) (filter (is_free H part) (reels_received H)))

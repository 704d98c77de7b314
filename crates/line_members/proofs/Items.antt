-- Items of a list and their values.
use Rattle.desk_types.proofs.Common.{[], ◌&&◌, ◌==◌, ◌∷◌, ◌≡◌, ap, Bool, if◌then◌else◌, length, length-map, List, list_all}
use Rattle.desk_types.proofs.Common.{map, refl, Some, ℕ}
use Rattle.cfx_profile.proofs.Items.{items_list-of}
use Rattle.serde_json.specs.Data.{Data}
use Rattle.serde_json.specs.Find.{as_array}
use Rattle.serde_json.specs.View.{items_view, view}
use Rattle.serde_json.specs.declared.value.Value.{Value}
use Rattle.line_members.specs.NamedReels.{is_reel, named_in, reel_of, reels_said}
use Rattle.line_members.specs.declared.named_reels.MachineReels.TheVariants.{Uncompared, Named}

map-map : {X Y Z : Type 0} (f : Y → Z) (g : X → Y) (xs : List X) → map f (map g xs) ≡ map (λ x. f (g x)) xs
map-map f g [] = refl
map-map f g (x ∷ xs) = ap (λ rest. f (g x) ∷ rest) (map-map f g xs)

all-map : {X Y : Type 0} (test : Y → Bool) (g : X → Y) (xs : List X)
    → list_all test (map g xs) ≡ list_all (λ x. test (g x)) xs
all-map test g [] = refl
all-map test g (x ∷ xs) = ap (λ rest. test (g x) && rest) (all-map test g xs)

-- What the values of items say.
pub named_so : (count : ℕ) (items : List Value) → named_in count (map view items)
    ≡ (if (length items == count) && list_all (λ item. is_reel (view item)) items
    then Named (map (λ item. reel_of (view item)) items) else Uncompared)
named_so count items = rw (length-map items view, all-map is_reel view items, map-map reel_of view items) refl

-- What a list says is what its items say.
pub said_so : (count : ℕ) (value : Data) (items : List Value) → as_array value ≡ Some (items_view items)
    → reels_said count value ≡ named_in count (map view items)
said_so count value items is = rw is (ap (named_in count) (items_list-of (map view items)))

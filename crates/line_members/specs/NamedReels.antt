-- The reels that a machine names for the pieces of an install.
use Rattle.std.specs.Prelude.{ℕ, ◌==◌, Bool, ◌&&◌, ◌||◌, Option, is_some, option_and_then, List, length, map, codes, if◌then◌else◌}
use Rattle.std.specs.List.{list_all}
use Rattle.std.specs.Option.{option_map_or}
use Rattle.serde_json.specs.Data.{Data}
use Rattle.serde_json.specs.Find.{as_array, as_null, as_str, get}
use Rattle.desk_types.specs.Id.{Name}
use Rattle.cfx_profile.specs.Forms.{id_of}
use Rattle.cfx_profile.specs.Lists.{items_list}
use Rattle.line_members.specs.declared.named_reels.MachineReels.{MachineReels}
use Rattle.line_members.specs.declared.named_reels.MachineReels.TheVariants.{Absent, Uncompared, Named}
use Rattle.line_members.specs.Body.{body_in}

-- The reel that the item names, if it is a text with a name.
abbrev pub reel_of : Data → Option Name
reel_of item = option_and_then id_of (as_str item)

-- Whether the item names a reel or is null, which names none.
abbrev pub is_reel : Data → Bool
is_reel item = is_some (as_null item) || is_some (reel_of item)

-- One reel, or null, for each of so many designators. Another number of items, or one item in
-- another form, leaves all uncompared.
abbrev pub named_in : ℕ → List Data → MachineReels
named_in count items = if (length items == count) && list_all is_reel items
    then Named (map reel_of items) else Uncompared

-- What is no list, and not null, can't be compared.
abbrev pub reels_said : ℕ → Data → MachineReels
reels_said count value = option_map_or (λ items. named_in count (items_list items)) (as_array value)
    (if is_some (as_null value) then Absent else Uncompared)

-- The reels that the body names for so many designators.
abbrev pub reels_in : ℕ → Data → MachineReels
reels_in count body = option_map_or (reels_said count) (get (codes "MachineReels") body) Absent

-- The reels that the install with so many designators names.
abbrev pub machine_reels : List ℕ → ℕ → MachineReels
machine_reels told count = option_map_or (reels_in count) (body_in told) Absent

-- Reels at rest: those that have pieces left and are on no slot.
use Rattle.std.specs.Prelude.{Bool, false, not, ◌&&◌, ◌||◌, nat_lt, List, [], if◌then◌else◌}
use Rattle.std.specs.List.{list_any}
use Rattle.std.specs.Option.{option_map_or}
use Rattle.std.specs.BTreeMap.{BTreeMap}
use Rattle.std.specs.BTreeSet.{BTreeSet}
use Rattle.desk_types.specs.declared.command.Command.{Command}
use Rattle.desk_types.specs.declared.command.Command.TheVariants.{ReelReceived, MaterialsLoaded, MaterialsSpliced, MaterialsUnloaded}
use Rattle.desk_types.specs.Id.{Name, same}
use Rattle.desk_types.specs.History.{History}
use Rattle.desk_types.specs.Pieces.{left_of, is_mounted}
use Rattle.desk_types.specs.declared.row.ReelRow.{ReelRow}
use Rattle.feeder_state.specs.Sets.{is_name_at}
use Rattle.state_rows.specs.Kept.{KeptRows, tables_in}

-- Whether the reel has pieces left and is on no slot.
abbrev pub rests : History → Name → Bool
rests H reel = nat_lt 0 (left_of H reel) && not (is_mounted H reel)

-- The same of a reel's row, and whether the reel is on a slot.
abbrev pub row_rests : Bool → ReelRow → Bool
row_rests on_slot row = nat_lt 0 row.remaining && not on_slot

-- The part of a reel, by its row.
abbrev pub part_at : KeptRows → Name → Name
part_at rows reel = option_map_or (λ (row : ReelRow). row.part) ((tables_in rows).reels reel) []

-- Whether the reel is among those of its part that may be at rest.
abbrev pub rests_at : KeptRows → BTreeMap Name (BTreeSet Name) → Name → Bool
rests_at rows resting reel = is_name_at resting (part_at rows reel) reel

-- Whether a reel may be at rest after a command, from whether it might before: a receipt and an unload put reels to rest, a load and a
-- splice end the rest of one.
abbrev pub resting_after : (Name → Name → List Name) → Name → Command → Bool → Bool
resting_after live reel (ReelReceived r part lot moisture quantity) before = same r reel || before
resting_after live reel (MaterialsUnloaded m s) before = list_any (same reel) (live m s) || before
resting_after live reel (MaterialsLoaded m s r) before = if same r reel then false else before
resting_after live reel (MaterialsSpliced m s r) before = if same r reel then false else before
resting_after live reel _ before = before

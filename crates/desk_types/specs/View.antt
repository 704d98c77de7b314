-- The reported state of a reel and of a machine's slots.
use Rattle.std.specs.Prelude.{ℕ, Bool, false, Option, Some, None, is_some, List, [], map, if◌then◌else◌, unwrap_or}
use Rattle.std.specs.Option.{option_map, option_map_or}
use Rattle.std.specs.List.{list_any, filter_map, flat_map, enumerate_from}
use Rattle.desk_types.specs.declared.command.Command.{Command}
use Rattle.desk_types.specs.declared.command.Command.TheVariants.{SheetDefined, MaterialsLoaded}
use Rattle.desk_types.specs.declared.command.Entry.{Entry}
use Rattle.desk_types.specs.declared.command.Receipt.{Receipt}
use Rattle.desk_types.specs.declared.view.Left.{Left}
use Rattle.desk_types.specs.declared.view.Left.TheVariants.{Minutes, Unlimited, Unbaked}
use Rattle.desk_types.specs.declared.view.Mount.{Mount}
use Rattle.desk_types.specs.declared.view.ReelView.{ReelView}
use Rattle.desk_types.specs.Id.{Name, same}
use Rattle.desk_types.specs.History.{History, now_of}
use Rattle.desk_types.specs.Setup.{receipt_of}
use Rattle.desk_types.specs.Pieces.{received_of, found_of, placed_of, scrapped_of, left_of, live_on, is_mounted}
use Rattle.desk_types.specs.FloorLife.{out_since, exposure_of, minutes_left, is_baked, is_unbaked}
use Rattle.desk_types.specs.Placements.{set_of}

-- ---- a reel

-- A received reel's part.
abbrev pub part_of : History → Name → Name
part_of H reel = option_map_or (λ (r : Receipt). r.part) (receipt_of H reel) []

-- A received reel's lot.
abbrev pub lot_of : History → Name → Name
lot_of H reel = option_map_or (λ (r : Receipt). r.lot) (receipt_of H reel) []

-- The reel's remaining floor life at the desk minute.
abbrev pub life_left : History → Name → Left
life_left H reel = if is_unbaked H reel then Unbaked
    else option_map_or Minutes (minutes_left H reel (now_of H)) Unlimited

-- The reel's exposure when it last left its bag, or at the desk minute while it is in its bag.
abbrev pub used_of : History → Name → ℕ
used_of H reel = exposure_of H reel (unwrap_or (out_since H reel) (now_of H))

-- The state of a reel with this receipt.
abbrev pub view_of : History → Name → Receipt → ReelView
view_of H reel receipt = record {
  reel = reel;
  part = receipt.part;
  lot = receipt.lot;
  level = receipt.moisture.level;
  label = receipt.moisture.label;
  received = received_of H reel;
  found = found_of H reel;
  placed = placed_of H reel;
  scrapped = scrapped_of H reel;
  remaining = left_of H reel;
  left = life_left H reel;
  mounted = is_mounted H reel;
  is_open = is_some (out_since H reel);
  used = used_of H reel;
  open_since = out_since H reel;
  baked = is_baked H reel;
}

-- The state of the reel, if it was received.
abbrev pub reel_view : History → Name → Option ReelView
reel_view H reel = option_map (view_of H reel) (receipt_of H reel)

-- ---- a machine's slots

-- Whether the command defines a sheet for the machine.
abbrev pub defines_on : Name → Command → Bool
defines_on machine (SheetDefined p m rows) = same m machine
defines_on machine _ = false

-- Whether some sheet is for the machine.
abbrev pub has_sheet : History → Name → Bool
has_sheet H machine = list_any (λ (e : Entry). defines_on machine e.stamped.command) H

-- The slot of the machine that the command loads.
abbrev pub slot_by : Name → Command → Option Name
slot_by machine (MaterialsLoaded m slot reel) = if same m machine then Some slot else None
slot_by machine _ = None

-- The machine's loaded slots in byte order, without duplicates.
abbrev pub loaded_slots : History → Name → List Name
loaded_slots H machine = set_of (filter_map (λ (e : Entry). slot_by machine e.stamped.command) H)

-- A live reel at its position on a slot.
abbrev pub mount_of : History → Name → ℕ × Name → Mount
mount_of H slot (position, reel) = record {
  slot = slot;
  position = position;
  reel = reel;
  part = part_of H reel;
  lot = lot_of H reel;
  remaining = left_of H reel;
  left = life_left H reel;
}

-- The slot's live reels, with the front at position 1.
abbrev pub slot_mounts : History → Name → Name → List Mount
slot_mounts H machine slot = map (mount_of H slot) (enumerate_from 1 (live_on H machine slot))

-- The live reels on the machine's slots, if some sheet is for the machine.
abbrev pub mounts_on : History → Name → Option (List Mount)
mounts_on H machine = if has_sheet H machine
    then Some (flat_map (slot_mounts H machine) (loaded_slots H machine)) else None

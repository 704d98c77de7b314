-- The front reels of a machine's slots, as verification uses them.
use Rattle.std.specs.Prelude.{ℕ, ◌+◌, Bool, true, false, nat_le, List, [], map, unwrap_or, if◌then◌else◌}
use Rattle.std.specs.Option.{option_map, option_map_or}
use Rattle.desk_types.specs.declared.command.Receipt.{Receipt}
use Rattle.desk_types.specs.declared.front.Front.{Front}
use Rattle.desk_types.specs.declared.front.FrontReel.{FrontReel}
use Rattle.desk_types.specs.declared.front.Life.{Life}
use Rattle.desk_types.specs.declared.front.Life.TheVariants.{Unlimited, Unbaked, Until}
use Rattle.desk_types.specs.declared.sheet.SheetRow.{SheetRow}
use Rattle.desk_types.specs.Id.{Name}
use Rattle.desk_types.specs.History.{History, now_of}
use Rattle.desk_types.specs.Setup.{sheet_on, receipt_of}
use Rattle.desk_types.specs.Pieces.{front_of}
use Rattle.desk_types.specs.FloorLife.{minutes_left, is_unbaked}

-- Whether the reel waits for its bake.
abbrev pub is_unbaked_life : Life → Bool
is_unbaked_life Unbaked = true
is_unbaked_life _ = false

-- Whether the life has ended by the minute.
abbrev pub is_expired_life : Life → ℕ → Bool
is_expired_life (Until end) minute = nat_le end minute
is_expired_life _ minute = false

-- The life of a reel that stays out of its bag from the minute on.
abbrev pub life_of : History → ℕ → Name → Life
life_of H minute reel =
    if is_unbaked H reel then Unbaked else option_map_or
    (λ left. Until (minute + left)) (minutes_left H reel minute) Unlimited

-- A reel at the front of a slot, with its part and its life.
abbrev pub front_reel : History → ℕ → Name → FrontReel
front_reel H minute reel = record {
  reel = reel;
  part = option_map_or (λ (r : Receipt). r.part) (receipt_of H reel) [];
  life = life_of H minute reel;
}

-- A row's slot with its front reel at the minute.
abbrev pub front_at : History → ℕ → Name → SheetRow → Front
front_at H minute machine row = record {
  slot = row.slot;
  reel = option_map (front_reel H minute) (front_of H machine row.slot);
}

-- The slots of the selected product's sheet in order, each with its front reel at the desk minute.
abbrev pub fronts_of : History → Name → List Front
fronts_of H machine = map (front_at H (now_of H) machine) (unwrap_or (sheet_on H machine) [])

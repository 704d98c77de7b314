-- Floor life: how many minutes a reel was out of its bag, and how many are allowed.
use Rattle.std.specs.Prelude.{◌≡◌, ℕ, ◌-◌, nat_le, ⊤, Bool, true, false, not, ◌&&◌, Option, Some, None, List, [], ◌∷◌, if◌then◌else◌, unwrap_or, count_by}
use Rattle.std.specs.Option.{option_and_then, option_map, option_map_or, option_or}
use Rattle.std.specs.List.{range_with_len}
use Rattle.desk_types.specs.declared.command.Command.{Command}
use Rattle.desk_types.specs.declared.command.Command.TheVariants.{ReelReceived, ReelOpened, ReelSealed, ReelBaked, MaterialsLoaded, MaterialsSpliced}
use Rattle.desk_types.specs.declared.command.Receipt.{Receipt}
use Rattle.desk_types.specs.declared.level.Level.{Level}
use Rattle.desk_types.specs.declared.level.Level.TheVariants.{Six}
use Rattle.desk_types.specs.Id.{Name, same}
use Rattle.desk_types.specs.Level.{limit_of}
use Rattle.desk_types.specs.History.{History, latest}
use Rattle.desk_types.specs.Setup.{receipt_of}

-- ---- exposure

-- How the command leaves the reel: out of its bag (true), in it (false), or untouched (none).
abbrev pub open_by : Name → Command → Option Bool
open_by reel (ReelReceived r part lot moisture quantity) = if same r reel then Some false else None
open_by reel (ReelOpened r) = if same r reel then Some true else None
open_by reel (ReelSealed r) = if same r reel then Some false else None
open_by reel (ReelBaked r) = if same r reel then Some false else None
open_by reel (MaterialsLoaded machine slot r) = if same r reel then Some true else None
open_by reel (MaterialsSpliced machine slot r) = if same r reel then Some true else None
open_by reel _ = None

-- No entry is a command on this reel.
abbrev pub IsUntouched : History → Name → Type 0
IsUntouched [] name = ⊤
IsUntouched (e ∷ H) name = (open_by name e.stamped.command ≡ None) × IsUntouched H name

-- Whether the reel is out of its bag at the minute, after the last command in effect by then.
unfoldable pub is_out_at : History → Name → ℕ → Bool
is_out_at H reel minute = unwrap_or (latest
    (λ e. if nat_le e.effective minute then open_by reel e.stamped.command else None) H) false

-- The minute of the command, if it bakes the reel.
abbrev pub bake_by : Name → ℕ → Command → Option ℕ
bake_by reel minute (ReelBaked r) = if same r reel then Some minute else None
bake_by reel minute _ = None

-- The minute of the reel's last bake.
abbrev pub last_bake : History → Name → Option ℕ
last_bake H reel = latest (λ e. bake_by reel e.effective e.stamped.command) H

-- The minute at which exposure starts: the last bake, or else the receipt.
abbrev pub exposure_starts : History → Name → ℕ
exposure_starts H reel = unwrap_or
    (option_or (last_bake H reel) (option_map (λ (r : Receipt). r.effective) (receipt_of H reel))) 0

-- The minutes from the first up to but not including the second.
abbrev pub minutes_between : ℕ → ℕ → List ℕ
minutes_between from to = range_with_len from (to - from)

-- The reel's exposure at the minute: how many earlier minutes it was out of its bag since its last
-- bake, or else its receipt.
unfoldable pub exposure_of : History → Name → ℕ → ℕ
exposure_of H reel minute =
    count_by (is_out_at H reel) (minutes_between (exposure_starts H reel) minute)

-- ---- the minute since which a reel is out

-- The minute since which the reel is out after a command; opening a reel that is out changes
-- nothing.
abbrev pub since_after : Option Bool → ℕ → Option ℕ → Option ℕ
since_after (Some true) minute since = option_or since (Some minute)
since_after (Some false) minute since = None
since_after None minute since = since

-- The minute of the first open, load or splice since the reel's last receipt, seal or bake.
abbrev pub out_since : History → Name → Option ℕ
out_since [] reel = None
out_since (e ∷ H) reel = since_after (open_by reel e.stamped.command) e.effective (out_since H reel)

-- ---- floor life

-- The reel's floor life in minutes, if it has a limit.
abbrev pub floor_life : History → Name → Option ℕ
floor_life H reel = option_and_then
    (λ (r : Receipt). limit_of r.moisture.level r.moisture.label) (receipt_of H reel)

-- Whether the reel's exposure has reached its floor life.
abbrev pub is_expired : History → Name → ℕ → Bool
is_expired H reel minute =
    option_map_or (λ limit. nat_le limit (exposure_of H reel minute)) (floor_life H reel) false

-- The remaining minutes of floor life, 0 if expired; none without a limit.
abbrev pub minutes_left : History → Name → ℕ → Option ℕ
minutes_left H reel minute =
    option_map (λ limit. limit - exposure_of H reel minute) (floor_life H reel)

-- Whether the command leaves the reel baked (a bake) or not (a receipt).
abbrev pub baked_by : Name → Command → Option Bool
baked_by reel (ReelReceived r part lot moisture quantity) = if same r reel then Some false else None
baked_by reel (ReelBaked r) = if same r reel then Some true else None
baked_by reel _ = None

-- Whether the reel was baked since its receipt.
abbrev pub is_baked : History → Name → Bool
is_baked H reel = unwrap_or (latest (λ e. baked_by reel e.stamped.command) H) false

abbrev pub is_six : Level → Bool
is_six Six = true
is_six _ = false

-- Whether the reel waits for its bake: it has level 6 and was not baked since its receipt.
abbrev pub is_unbaked : History → Name → Bool
is_unbaked H reel = option_map_or
    (λ (r : Receipt). is_six r.moisture.level) (receipt_of H reel) false && not (is_baked H reel)

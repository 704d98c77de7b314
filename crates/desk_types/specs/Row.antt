-- A reel's row: how commands on its bag change it, and the floor life that it tells.
use Rattle.std.specs.Prelude.{◌≡◌, ℕ, ◌+◌, ◌-◌, ◌≤◌, nat_le, Bool, true, false, not, ◌&&◌, Option, Some, None}
use Rattle.std.specs.Option.{option_map, option_map_or, option_or}
use Rattle.desk_types.specs.declared.command.Receipt.{Receipt}
use Rattle.desk_types.specs.declared.limits.TheConstants.{GREATEST_LABEL}
use Rattle.desk_types.specs.declared.row.ReelRow.{ReelRow}
use Rattle.desk_types.specs.Id.{Name}
use Rattle.desk_types.specs.Level.{limit_of}
use Rattle.desk_types.specs.History.{History, now_of}
use Rattle.desk_types.specs.Setup.{receipt_of}
use Rattle.desk_types.specs.FloorLife.{exposure_of, floor_life, is_six, is_unbaked}
use Rattle.desk_types.specs.Pieces.{left_of}
use Rattle.desk_types.specs.View.{view_of}
use Rattle.desk_types.specs.Tables.{columns_of}

-- The row of a reel that was just received.
abbrev pub fresh_row : Name → Receipt → ReelRow
fresh_row reel receipt = record {
  reel = reel;
  part = receipt.part;
  lot = receipt.lot;
  level = receipt.moisture.level;
  label = receipt.moisture.label;
  received = receipt.quantity;
  placed = 0;
  scrapped = 0;
  remaining = receipt.quantity;
  used = 0;
  open_since = None;
  baked = false;
}

-- The exposure at a minute: the stored one, and the minutes since the reel left its bag.
abbrev pub exposure_at : ReelRow → ℕ → ℕ
exposure_at row minute = row.used + option_map_or (λ since. minute - since) row.open_since 0

-- The reel is out of its bag, from this minute on unless it was out already.
abbrev pub opened_row : ℕ → ReelRow → ReelRow
opened_row minute row = record row { open_since = option_or row.open_since (Some minute) }

-- The reel is in its bag and keeps its exposure at this minute.
abbrev pub sealed_row : ℕ → ReelRow → ReelRow
sealed_row minute row = record row { used = exposure_at row minute; open_since = None }

-- The reel is in its bag, baked and without exposure.
abbrev pub baked_row : ReelRow → ReelRow
baked_row row = record row { used = 0; open_since = None; baked = true }

-- ---- floor life

-- The row's remaining minutes of floor life, 0 if expired; none without a limit.
abbrev pub minutes_left_at : ReelRow → ℕ → Option ℕ
minutes_left_at row minute =
    option_map (λ limit. limit - exposure_at row minute) (limit_of row.level row.label)

-- Whether the row's exposure has reached its limit, if it has one.
abbrev pub is_expired_at : ReelRow → ℕ → Bool
is_expired_at row minute = option_map_or (λ limit. nat_le limit (exposure_at row minute))
    (limit_of row.level row.label) false

-- Whether the reel of the row waits for its bake: it has level 6 and isn't baked.
abbrev pub is_unbaked_row : ReelRow → Bool
is_unbaked_row row = is_six row.level && not row.baked

-- The row is this reel's in the history, and tells its floor life from the desk minute on.
pub record IsRowOf (H : History) (name : Name) (row : ReelRow) : Type 0 where
  pub receipt : Receipt
  pub is : receipt_of H name ≡ Some receipt
  pub row_is : row ≡ columns_of (view_of H name receipt)
  pub part : row.part ≡ receipt.part
  pub lot : row.lot ≡ receipt.lot
  pub remaining : row.remaining ≡ left_of H name
  pub limit : limit_of row.level row.label ≡ floor_life H name
  pub unbaked : is_unbaked_row row ≡ is_unbaked H name
  pub exposure : (minute : ℕ) → now_of H ≤ minute
      → (exposure_at row minute ≡ exposure_of H name minute) × (exposure_at row minute ≤ minute)
  pub label : row.label ≤ GREATEST_LABEL

-- The row of this name, if such a reel was received.
abbrev pub IsRowIfAny : History → Name → Option ReelRow → Type 0
IsRowIfAny H name None = receipt_of H name ≡ None
IsRowIfAny H name (Some row) = IsRowOf H name row

-- The state of a reel, and the history that it represents.
use Rattle.std.specs.Prelude.{◌≡◌, ℕ, ◌+◌, ◌-◌, ◌≤◌, Bool, true, false, Option, Some, None, unwrap_or, if◌then◌else◌}
use Rattle.desk_types.specs.declared.command.Receipt.{Receipt}
use Rattle.desk_types.specs.declared.row.ReelRow.{ReelRow}
use Rattle.desk_types.specs.Id.{Name}
use Rattle.desk_types.specs.Row.{exposure_at}
use Rattle.desk_types.specs.History.{History, now_of}
use Rattle.desk_types.specs.Setup.{receipt_of}
use Rattle.desk_types.specs.FloorLife.{out_since, exposure_of, exposure_starts, is_baked}
use Rattle.reels.specs.declared.reel.Reel.{Reel}
use Rattle.reels.specs.declared.reel.Usage.{Usage}
use Rattle.reels.specs.declared.reel.Usage.TheVariants.{Placed, Scrapped}

abbrev pub is_placed_usage : Usage → Bool
is_placed_usage Placed = true
is_placed_usage Scrapped = false

-- The row without pieces that were taken off the reel, each placed or scrapped.
abbrev pub taken_row : Usage → ℕ → ReelRow → ReelRow
taken_row usage pieces row = record row {
  placed = row.placed + (if is_placed_usage usage then pieces else 0);
  scrapped = row.scrapped + (if is_placed_usage usage then 0 else pieces);
  remaining = row.remaining - pieces;
}

-- The row after a count of so many pieces: the missing ones are scrapped.
abbrev pub counted_row : ℕ → ReelRow → ReelRow
counted_row pieces row = record row {
  scrapped = row.scrapped + (row.remaining - pieces);
  remaining = pieces;
}

-- The row after a count above the remaining pieces: the surplus is received.
abbrev pub risen_row : ℕ → ReelRow → ReelRow
risen_row pieces row = record row {
  received = row.received + (pieces - row.remaining);
  remaining = pieces;
}

-- The history has this row's receipt; the received pieces are the receipt's and those found later.
pub record HasReceipt (H : History) (name : Name) (row : ReelRow) (found : ℕ) : Type 0 where
  pub receipt : Receipt
  pub is : receipt_of H name ≡ Some receipt
  pub part : row.part ≡ receipt.part
  pub lot : row.lot ≡ receipt.lot
  pub level : row.level ≡ receipt.moisture.level
  pub label : row.label ≡ receipt.moisture.label
  pub received : row.received ≡ receipt.quantity + found

-- The row has the state of this name in the history: receipt, bake, time out of its bag, and
-- exposure from its last command on.
pub record RowStandsFor (H : History) (name : Name) (row : ReelRow) (found last : ℕ) : Type 0 where
  pub receipt : HasReceipt H name row found
  pub baked : row.baked ≡ is_baked H name
  pub open_since : row.open_since ≡ out_since H name
  pub starts : exposure_starts H name ≤ last
  pub used : row.used ≡ exposure_of H name (unwrap_or row.open_since last)
  pub exposure : (minute : ℕ) → last ≤ minute → exposure_at row minute ≡ exposure_of H name minute

-- The reel has the state of this name in the history.
abbrev pub StandsFor : History → Name → Reel → Type 0
StandsFor H name reel = RowStandsFor H name reel.row reel.found reel.last

-- The reel represents this name's history; there is no reel before its receipt.
abbrev pub IsReelOf : History → Name → Option Reel → Type 0
IsReelOf H name None = receipt_of H name ≡ None
IsReelOf H name (Some reel) = StandsFor H name reel × (reel.last ≤ now_of H)

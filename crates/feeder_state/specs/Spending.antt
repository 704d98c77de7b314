-- Reels that takes spend.
use Rattle.std.specs.Prelude.{◌≡◌, ℕ, nat_lt, Bool, true, false, ◌&&◌, ◌==◌}
use Rattle.desk_types.specs.declared.edit.RowEdit.{RowEdit}
use Rattle.desk_types.specs.declared.edit.RowEdit.TheVariants.{PutReel}
use Rattle.desk_types.specs.declared.take.Take.{Take}
use Rattle.desk_types.specs.Id.{Name, same}
use Rattle.desk_types.specs.History.{History}
use Rattle.desk_types.specs.Pieces.{left_of}
use Rattle.desk_laws.specs.Slots.{comes_off}
use Rattle.state_rows.specs.Kept.{KeptRows}
use Rattle.feeder_state.specs.Rows.{left_at}

-- Whether the take took pieces of the reel from the slot, and left none.
abbrev pub is_spent_by : (Name → ℕ) → Name → Name → Name → Take → Bool
is_spent_by left machine slot reel take =
    (comes_off take.purpose machine slot && same take.reel reel) && (left reel == 0)

-- Whether the edit leaves a reel without pieces.
abbrev pub empties : RowEdit → Bool
empties (PutReel row) = row.remaining == 0
empties _ = false

-- Unless a reel is spent, each that has pieces after H has some left in the rows.
abbrev pub NoneIsSpent : Bool → History → KeptRows → Type 0
NoneIsSpent spends H rows = spends ≡ false → (r : Name) → nat_lt 0 (left_of H r) ≡ true
    → (left_at rows r == 0) ≡ false

-- The verification of the reel that each placed piece came from.
use Rattle.std.specs.Prelude.{◌≡◌, ℕ, ◌-◌, Bool, true, false, ◌&&◌, Option, Some, List, ◌∷◌, ◌++◌, ◌≤◌, take, nat_lt, slice_get}
use Rattle.std.specs.List.{list_any, find}
use Rattle.desk_types.specs.declared.command.Command.{Command}
use Rattle.desk_types.specs.declared.command.Command.TheVariants.{MaterialsLoaded, MaterialsSpliced, MaterialsInstalled}
use Rattle.desk_types.specs.declared.command.Entry.{Entry}
use Rattle.desk_types.specs.declared.command.Receipt.{Receipt}
use Rattle.desk_types.specs.declared.placement.Placement.{Placement}
use Rattle.desk_types.specs.declared.sheet.SheetRow.{SheetRow}
use Rattle.desk_types.specs.declared.take.Pick.{Pick}
use Rattle.desk_types.specs.Id.{Name, same}
use Rattle.desk_types.specs.History.{History, IsPrefix}
use Rattle.desk_types.specs.Setup.{is_allowed, row_on, slot_on, receipt_of}
use Rattle.desk_types.specs.Tape.{tape_of}
use Rattle.desk_types.specs.Pieces.{pieces_picked, left_of, picks_of}
use Rattle.desk_types.specs.FloorLife.{is_unbaked, is_expired}

-- Whether the command loads or splices the reel onto the slot.
abbrev pub mounts : Name → Name → Name → Command → Bool
mounts machine slot reel (MaterialsLoaded m s r) = (same m machine && same s slot) && same r reel
mounts machine slot reel (MaterialsSpliced m s r) = (same m machine && same s slot) && same r reel
mounts machine slot reel _ = false

-- After H, at the minute, the reel may feed the slot: the selected product's sheet allows its part,
-- and it neither waits for its bake nor is expired.
pub record IsVerified (H : History) (minute : ℕ) (machine slot reel : Name) : Type 0 where
  pub receipt : Receipt
  pub received : receipt_of H reel ≡ Some receipt
  pub row : SheetRow
  pub on_sheet : row_on H machine slot ≡ Some row
  pub part_allowed : is_allowed H row.part receipt.part ≡ true
  pub baked : is_unbaked H reel ≡ false
  pub not_expired : is_expired H reel minute ≡ false

-- The reel was verified when it was last loaded or spliced onto the slot.
pub record WasVerified (H : History) (machine slot reel : Name) : Type 0 where
  pub before : History
  pub entry : Entry
  pub later : List Entry
  pub order : H ≡ later ++ entry ∷ before
  pub mounted : mounts machine slot reel entry.stamped.command ≡ true
  pub last : list_any (λ (e : Entry). mounts machine slot reel e.stamped.command) later ≡ false
  pub verified : IsVerified before entry.effective machine slot reel

-- The first reel on the slot's tape with a piece left after earlier picks.
abbrev pub next_reel : History → Name → Name → List Pick → Option Name
next_reel H machine slot before =
    find (λ reel. nat_lt (pieces_picked before reel) (left_of H reel)) (tape_of H machine slot)

-- The install with the placement's number placed the piece for its designator, at that designator's
-- slot. The piece came from the slot's first reel with a piece left, which was verified for the
-- slot and whose receipt has the part and lot. It is overdue exactly if that reel had expired.
pub record IsRightlyPlaced (H : History) (p : Placement) : Type 0 where
  pub before : History
  pub entry : Entry
  pub accepted : IsPrefix (entry ∷ before) H
  pub number : entry.number ≡ p.number
  pub effective : entry.effective ≡ p.effective
  pub designators : List Name
  pub command : entry.stamped.command ≡ MaterialsInstalled p.machine p.board designators
  pub place : 1 ≤ p.place
  pub named : slice_get designators (p.place - 1) ≡ Some p.designator
  pub slot : slot_on before p.machine p.designator ≡ Some p.slot
  pub next : next_reel before p.machine p.slot
      (take (p.place - 1) (picks_of before entry.stamped.command)) ≡ Some p.reel
  pub receipt : Receipt
  pub received : receipt_of before p.reel ≡ Some receipt
  pub part : p.part ≡ receipt.part
  pub lot : p.lot ≡ receipt.lot
  pub overdue : p.overdue ≡ is_expired before p.reel entry.effective
  pub verified : WasVerified before p.machine p.slot p.reel

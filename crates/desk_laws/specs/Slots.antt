-- The slots that picks come from. The proofs use these definitions; the rules don't.
use Rattle.std.specs.Prelude.{◌≡◌, Bool, true, false, ◌&&◌, List}
use Rattle.std.specs.List.{list_any}
use Rattle.desk_types.specs.declared.take.Pick.{Pick}
use Rattle.desk_types.specs.declared.take.Purpose.{Purpose}
use Rattle.desk_types.specs.declared.take.Purpose.TheVariants.{Placed, Rejected, Counted}
use Rattle.desk_types.specs.Id.{Name, same}

-- Whether pieces for this purpose come off the slot; those missing at a count come off none.
abbrev pub comes_off : Purpose → Name → Name → Bool
comes_off (Placed board designator m s) machine slot = same m machine && same s slot
comes_off (Rejected m s) machine slot = same m machine && same s slot
comes_off Counted machine slot = false

-- The pick's reel is on no slot other than the pick's own, for the given reels of each slot.
abbrev pub IsOnItsSlot : (Name → Name → List Name) → Pick → Type 0
IsOnItsSlot reels_on p = (machine slot : Name) → list_any (same p.reel) (reels_on machine slot)
    ≡ true → comes_off p.purpose machine slot ≡ true

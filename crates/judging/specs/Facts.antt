-- The minute of a judgement, the designators placed on a board, and a received reel.
use Rattle.std.specs.Prelude.{◌≡◌, ℕ, ◌≤◌, true, is_some, List}
use Rattle.std.specs.List.{list_any}
use Rattle.std.specs.List.Sorted.{IsSorted}
use Rattle.desk_types.specs.Id.{Name, same, by_name}
use Rattle.desk_types.specs.History.{History, now_of}
use Rattle.desk_types.specs.Setup.{receipt_of}
use Rattle.desk_types.specs.Work.{is_placed_on}

-- The facts represent some history, and the minute is not before the desk minute of any that they
-- represent.
abbrev pub IsBy : {F : Type 0} → (F → History → Type 0) → F → ℕ → Type 0
IsBy Stands facts minute = ((H : History) × Stands facts H)
    × ((H : History) → Stands facts H → now_of H ≤ minute)

-- The names are the designators placed on the board, in order.
abbrev pub ArePlacedOn : History → Name → List Name → Type 0
ArePlacedOn H board names = IsSorted by_name names
    × ((designator : Name) → list_any (same designator) names ≡ is_placed_on H board designator)

-- The reel was received.
abbrev pub IsKnownReel : History → Name → Type 0
IsKnownReel H reel = is_some (receipt_of H reel) ≡ true

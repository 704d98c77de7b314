-- The mark with the greatest value at a slot.
use Rattle.std.specs.Prelude.{◌≡◌, ◌<◌, ◌≤◌, ℕ, nat_lt, ◌&&◌, Option, Some, None, List, [], ◌∷◌, ⊤, All, take, drop, if◌then◌else◌}
use Rattle.std.specs.BTreeMap as tree
use Rattle.std.specs.BTreeMap.{BTreeMap}
use Rattle.desk_types.specs.Id.{Name, same}
use Rattle.desk_types.specs.Pair.{by_pair}
use Rattle.line_doubt.specs.declared.mark.Ask.{Ask}
use Rattle.line_doubt.specs.declared.mark.Mark.{Mark}

-- The mark with the greater value, or the first of two with the same.
abbrev pub better : Option Mark → Option Mark → Option Mark
better None b = b
better (Some a) None = Some a
better (Some a) (Some b) = if nat_lt a.value b.value then Some b else Some a

-- The first of the marks with the greatest value.
abbrev pub best : {X : Type 0} → (X → Option Mark) → List X → Option Mark
best mark [] = None
best mark (x ∷ xs) = better (mark x) (best mark xs)

-- The mark if it is of the slot.
abbrev pub mark_at : Name → Name → Mark → Option Mark
mark_at machine slot m = if same m.machine machine && same m.slot slot then Some m else None

-- The mark if it is of the slot and before the place.
abbrev pub mark_before : Name → Name → ℕ → Mark → Option Mark
mark_before machine slot to m = if nat_lt m.at to then mark_at machine slot m else None

-- The mark with the greatest value of those of the slot before the place.
abbrev pub best_before : List Mark → Ask → Option Mark
best_before marks a = best (mark_before a.machine a.slot a.at) marks

-- The mark's value, or 0.
abbrev pub value_of : Option Mark → ℕ
value_of None = 0
value_of (Some m) = m.value

-- The mark's number if its value is above k.
abbrev pub number_above : Option Mark → ℕ → Option ℕ
number_above None k = None
number_above (Some m) k = if nat_lt k m.value then Some m.number else None

-- The places don't fall, and none is below the number.
abbrev pub Rise : {X : Type 0} → (X → ℕ) → ℕ → List X → Type 0
Rise at from [] = ⊤
Rise at from (x ∷ xs) = (from ≤ at x) × Rise at (at x) xs

abbrev pub MarksRise : ℕ → List Mark → Type 0
MarksRise from marks = Rise (λ (m : Mark). m.at) from marks

abbrev pub AsksRise : ℕ → List Ask → Type 0
AsksRise from asks = Rise (λ (a : Ask). a.at) from asks

-- The slot's mark in the map.
abbrev pub best_in : BTreeMap (Name × Name) Mark → Name → Name → Option Mark
best_in found machine slot = tree.get by_pair found (machine, slot)

-- The map has the best of so many marks, which are those before the place.
pub record AreTaken (marks : List Mark) (to at : ℕ) (found : BTreeMap (Name × Name) Mark)
    : Type 0 where
  pub values : (machine slot : Name)
      → best_in found machine slot ≡ best (mark_at machine slot) (take at marks)
  pub before : All (λ (m : Mark). m.at < to) (take at marks)
  pub rest : MarksRise to (drop at marks)

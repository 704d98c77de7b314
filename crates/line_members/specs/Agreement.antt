-- A machine that agrees with the desk.
use Rattle.std.specs.Prelude.{◌≡◌, ⊤, Option, Some, List, [], ◌∷◌}
use Rattle.desk_types.specs.declared.take.Take.{Take}
use Rattle.desk_types.specs.Id.{Name}

-- Each reel that the machine names is that of the desk.
abbrev pub Agree : List Take → List (Option Name) → Type 0
Agree [] reels = ⊤
Agree (t ∷ ts) [] = ⊤
Agree (t ∷ ts) (r ∷ rs) = ((reel : Name) → r ≡ Some reel → reel ≡ t.reel) × Agree ts rs

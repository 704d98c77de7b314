-- The takes stored with the entries.
use Rattle.std.specs.Prelude.{◌≡◌, ℕ, ⊤, List, [], ◌∷◌, if◌then◌else◌}
use Rattle.std.specs.List.{sum_by}
use Rattle.desk_types.specs.declared.take.Take.{Take}
use Rattle.desk_types.specs.Id.{Name, same}
use Rattle.desk_types.specs.History.{History}
use Rattle.desk_types.specs.Outcome.{takes_by}

-- Each entry has its takes, computed from the history before it.
abbrev pub AreTakes : History → List (List Take) → Type 0
AreTakes [] [] = ⊤
AreTakes (e ∷ H) (takes ∷ kept) = (takes ≡ takes_by H e.effective e.stamped.command)
    × AreTakes H kept
AreTakes H kept = ⊥

-- How many of the reel's pieces are taken.
abbrev pub pieces_taken : List Take → Name → ℕ
pieces_taken takes reel = sum_by (λ t. if same t.reel reel then t.quantity else 0) takes

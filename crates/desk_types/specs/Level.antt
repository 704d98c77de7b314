-- Moisture sensitivity levels and their floor life.
use Rattle.std.specs.Prelude.{◌≡◌, ℕ, ◌≤◌, Option, Some, None, List, [], ◌∷◌, codes, find}
use Rattle.desk_types.specs.declared.level.Level.{Level}
use Rattle.desk_types.specs.declared.level.Level.TheVariants.{One, Two, TwoA, Three, Four, Five, FiveA, Six}
use Rattle.desk_types.specs.declared.limits.TheConstants.{GREATEST_LABEL}
use Rattle.desk_types.specs.Id.{same}

-- The text of a level.
abbrev pub text_of : Level → List ℕ
text_of One = codes "1"
text_of Two = codes "2"
text_of TwoA = codes "2a"
text_of Three = codes "3"
text_of Four = codes "4"
text_of Five = codes "5"
text_of FiveA = codes "5a"
text_of Six = codes "6"

-- The level with this text.
abbrev pub level_of : List ℕ → Option Level
level_of text = find (λ level. same (text_of level) text)
    (One ∷ Two ∷ TwoA ∷ Three ∷ Four ∷ Five ∷ FiveA ∷ Six ∷ [])

-- The floor life in minutes: none at level 1, the label's at level 6.
abbrev pub limit_of : Level → ℕ → Option ℕ
limit_of One label = None
limit_of Two label = Some 525600
limit_of TwoA label = Some 40320
limit_of Three label = Some 10080
limit_of Four label = Some 4320
limit_of Five label = Some 2880
limit_of FiveA label = Some 1440
limit_of Six label = Some label

-- A level with the minutes of its label.
pub record LevelWithLabel : Type 0 where
  pub level : Level
  pub label : ℕ

-- The label's minutes: 1 to 525,600 at level 6, and 0 at the others.
abbrev pub IsLabel : Level → ℕ → Type 0
IsLabel Six label = (1 ≤ label) × (label ≤ GREATEST_LABEL)
IsLabel _ label = label ≡ 0

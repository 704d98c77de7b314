-- The alternates of parts.
use Rattle.std.specs.Prelude.{◌≡◌, Bool, ◌||◌, List}
use Rattle.std.specs.List.{list_any}
use Rattle.desk_types.specs.Id.{Name, same}
use Rattle.desk_types.specs.Pair.{same_pair}
use Rattle.desk_types.specs.History.{History}
use Rattle.desk_types.specs.Setup.{is_alternate}

-- Whether the pairs name q as an alternate of p.
abbrev pub is_pair_among : List (Name × Name) → Name → Name → Bool
is_pair_among alternates p q = list_any (same_pair (p, q)) alternates

-- Whether part q may replace p: it is p, or the pairs name it as an alternate of p.
abbrev pub is_allowed_by : List (Name × Name) → Name → Name → Bool
is_allowed_by alternates p q = same q p || is_pair_among alternates p q

-- The pairs are those that the history names.
abbrev pub AreAlternates : History → List (Name × Name) → Type 0
AreAlternates H alternates = (p q : Name) → is_pair_among alternates p q ≡ is_alternate H p q

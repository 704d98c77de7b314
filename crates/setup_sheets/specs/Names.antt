-- Sets of names.
use Rattle.std.specs.Prelude.{◌≡◌, Bool, List}
use Rattle.std.specs.BTreeSet.{BTreeSet, contains}
use Rattle.std.specs.List.{list_any}
use Rattle.desk_types.specs.Id.{Name, same, by_name}

-- Whether the name is one of these.
abbrev pub is_among : List Name → Name → Bool
is_among names x = list_any (same x) names

-- The set has exactly these names.
abbrev pub HasSeen : BTreeSet Name → List Name → Type 0
HasSeen seen names = (x : Name) → contains by_name seen x ≡ is_among names x

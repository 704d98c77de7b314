-- Names in sets, by another name.
use Rattle.std.specs.Prelude.{Bool, false, List, []}
use Rattle.std.specs.Option.{option_map_or}
use Rattle.std.specs.BTreeMap as tree
use Rattle.std.specs.BTreeMap.{BTreeMap}
use Rattle.std.specs.BTreeSet.{BTreeSet, contains}
use Rattle.desk_types.specs.Id.{Name, by_name}

-- The names in the set of this key.
abbrev pub names_at : BTreeMap Name (BTreeSet Name) → Name → List Name
names_at sets key =
    option_map_or (λ (names : BTreeSet Name). names.keys) (tree.get by_name sets key) []

-- Whether the name is in the set of this key.
abbrev pub is_name_at : BTreeMap Name (BTreeSet Name) → Name → Name → Bool
is_name_at sets key name =
    option_map_or (λ (names : BTreeSet Name). contains by_name names name)
    (tree.get by_name sets key) false

-- The tapes by machine and slot.
use Rattle.std.specs.Prelude.{List, [], unwrap_or}
use Rattle.std.specs.BTreeMap as tree
use Rattle.std.specs.BTreeMap.{BTreeMap}
use Rattle.desk_types.specs.Id.{Name}
use Rattle.desk_types.specs.Pair.{by_pair}

-- The slot's tape, empty if unknown.
abbrev pub tape_at : BTreeMap (Name × Name) (List Name) → Name → Name → List Name
tape_at tapes machine slot = unwrap_or (tree.get by_pair tapes (machine, slot)) []

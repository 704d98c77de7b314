-- Boards in work, in maps.
use Rattle.std.specs.Prelude.{◌≡◌, Bool, Option, List, [], unwrap_or}
use Rattle.std.specs.List.{list_any}
use Rattle.std.specs.BTreeMap as tree
use Rattle.std.specs.BTreeMap.{BTreeMap}
use Rattle.desk_types.specs.Id.{Name, same, by_name}
use Rattle.desk_types.specs.History.{History}
use Rattle.desk_types.specs.Work.{in_work_on, is_placed_on}
use Rattle.feeder_state.specs.declared.work.Work.{Work}

-- The board that the map has on the machine.
abbrev pub running_at : BTreeMap Name Name → Name → Option Name
running_at running machine = tree.get by_name running machine

-- Whether the map has the designator on the board.
abbrev pub is_placed_at : BTreeMap Name (List Name) → Name → Name → Bool
is_placed_at placed board designator =
    list_any (same designator) (unwrap_or (tree.get by_name placed board) [])

-- The work is that of the history.
pub record IsWork (H : History) (work : Work) : Type 0 where
  pub running : (machine : Name) → running_at work.running machine ≡ in_work_on H machine
  pub placed : (board designator : Name)
      → is_placed_at work.placed board designator ≡ is_placed_on H board designator

-- Boards in work, their products and their placements.
use Rattle.std.specs.Prelude.{Bool, false, ◌&&◌, Option, Some, None, [], ◌∷◌, if◌then◌else◌, unwrap_or}
use Rattle.std.specs.Option.{option_and_then, option_map_or, option_or}
use Rattle.std.specs.List.{list_any}
use Rattle.desk_types.specs.declared.command.Command.{Command}
use Rattle.desk_types.specs.declared.command.Command.TheVariants.{WorkStarted, WorkCompleted, MaterialsInstalled}
use Rattle.desk_types.specs.declared.command.Entry.{Entry}
use Rattle.desk_types.specs.Id.{Name, same}
use Rattle.desk_types.specs.History.{History, latest}
use Rattle.desk_types.specs.Setup.{selected_on}

-- The board in work on the machine after the command: a start sets it, a completion clears it.
abbrev pub work_by : Name → Command → Option (Option Name)
work_by machine (WorkStarted m board) = if same m machine then Some (Some board) else None
work_by machine (WorkCompleted m board) = if same m machine then Some None else None
work_by machine _ = None

-- The board in work on the machine.
abbrev pub in_work_on : History → Name → Option Name
in_work_on H machine = unwrap_or (latest (λ e. work_by machine e.stamped.command) H) None

-- Whether the board is the one in work on the machine.
abbrev pub is_in_work_on : History → Name → Name → Bool
is_in_work_on H machine board = option_map_or (same board) (in_work_on H machine) false

-- Whether the command started the board on a machine where it is still in work after H.
abbrev pub is_in_work_where_started : History → Name → Command → Bool
is_in_work_where_started H board (WorkStarted machine b) =
    same b board && is_in_work_on H machine board
is_in_work_where_started H board _ = false

-- Whether the board is in work on some machine (an entry started it there).
abbrev pub is_in_work : History → Name → Bool
is_in_work H board = list_any (λ (e : Entry). is_in_work_where_started H board e.stamped.command) H

-- The machine where the command starts the board.
abbrev pub start_by : Name → Command → Option Name
start_by board (WorkStarted machine b) = if same b board then Some machine else None
start_by board _ = None

-- The board's product: the one selected on the machine at the board's first start.
abbrev pub product_of : History → Name → Option Name
product_of [] board = None
product_of (e ∷ H) board = option_or (product_of H board)
    (option_and_then (selected_on H) (start_by board e.stamped.command))

-- Whether the command places the designator on the board.
abbrev pub places : Name → Name → Command → Bool
places board designator (MaterialsInstalled machine b designators) =
    same b board && list_any (same designator) designators
places board designator _ = false

-- Whether some install placed the designator on the board, on any machine.
abbrev pub is_placed_on : History → Name → Name → Bool
is_placed_on H board designator =
    list_any (λ (e : Entry). places board designator e.stamped.command) H

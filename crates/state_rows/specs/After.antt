-- The effect of a command on rows. These are no definitions of the tables; they make the proof short that edits lead to
-- them.
use Rattle.std.specs.Prelude.{ℕ, ◌+◌, ◌-◌, Bool, true, false, not, Option, Some, None, List, unwrap_or, if◌then◌else◌, ◌==◌}
use Rattle.std.specs.Option.{option_map, option_map_or, option_or, option_and_then}
use Rattle.std.specs.List.{filter}
use Rattle.desk_types.specs.declared.command.Command.{Command}
use Rattle.desk_types.specs.declared.command.Command.TheVariants.{MaterialsLoaded, MaterialsSpliced, MaterialsUnloaded, WorkStarted, WorkCompleted, MaterialsInstalled, MaterialsScrapped, CountsTaken}
use Rattle.desk_types.specs.declared.command.Receipt.{Receipt}
use Rattle.desk_types.specs.declared.take.Pick.{Pick}
use Rattle.desk_types.specs.declared.take.Take.{Take}
use Rattle.desk_types.specs.declared.take.Purpose.{Purpose}
use Rattle.desk_types.specs.declared.take.Purpose.TheVariants.{Placed}
use Rattle.desk_types.specs.Id.{Name, same}
use Rattle.desk_types.specs.Row.{fresh_row}
use Rattle.desk_types.specs.Setup.{receipt_by}
use Rattle.desk_types.specs.Pieces.{pieces_picked, is_placed, pieces_by, found_by}
use Rattle.desk_types.specs.FloorLife.{open_by, since_after, baked_by}
use Rattle.desk_types.specs.declared.row.ReelRow.{ReelRow}
use Rattle.desk_types.specs.declared.row.MountRow.{MountRow}
use Rattle.desk_types.specs.declared.row.BoardRow.{BoardRow}
use Rattle.desk_types.specs.declared.row.PlacementRow.{PlacementRow}
use Rattle.desk_types.specs.Tables.{at_place}

-- How many pieces of the reel the picks place, and how many they scrap.
abbrev pub placed_in : List Pick → Name → ℕ
placed_in picks reel = pieces_picked (filter (λ p. is_placed p.purpose) picks) reel

abbrev pub scrapped_in : List Pick → Name → ℕ
scrapped_in picks reel = pieces_picked (filter (λ p. not (is_placed p.purpose)) picks) reel

-- The exposure that is kept after a command, by whether it bakes the reel and how it leaves its bag.
abbrev pub used_after : Bool → Option Bool → ℕ → Option ℕ → ℕ → ℕ
used_after true out minute since used = 0
used_after false (Some false) minute since used =
    used + option_map_or (λ from. minute - from) since 0
used_after false (Some true) minute since used = used
used_after false None minute since used = used

-- Whether the command bakes the reel.
abbrev pub bakes : Name → Command → Bool
bakes reel command = unwrap_or (baked_by reel command) false

-- A received reel's row after a command that takes these pieces. A count gives the pieces left, and finds those above
-- the old number.
abbrev pub step_row : ℕ → List Pick → Name → Command → ReelRow → ReelRow
step_row minute picks reel command row = record row {
  received = row.received + found_by row.remaining reel command;
  placed = row.placed + placed_in picks reel;
  scrapped = row.scrapped + scrapped_in picks reel;
  remaining = unwrap_or (pieces_by reel command) (row.remaining - pieces_picked picks reel);
  used = used_after (bakes reel command) (open_by reel command) minute row.open_since row.used;
  open_since = since_after (open_by reel command) minute row.open_since;
  baked = unwrap_or (baked_by reel command) row.baked;
}

-- The reel's row after a command.
abbrev pub reel_after : ℕ → List Pick → Name → Command → Option ReelRow → Option ReelRow
reel_after minute picks reel command row =
    option_or (option_map (fresh_row reel) (receipt_by reel minute command))
    (option_map (step_row minute picks reel command) row)

-- The found pieces of a reel after a command, if it had this many left.
abbrev pub found_after : ℕ → Name → Command → Option ℕ → Option ℕ
found_after left reel command found = some_of (unwrap_or found 0 + found_by left reel command)
  where
    some_of : ℕ → Option ℕ
    some_of n = if n == 0 then None else Some n

-- The row of a mounted reel after the entry of this number, by whether the reel then has pieces left and on which slots
-- it was live.
abbrev pub mount_after : Bool → (Name → Name → Bool) → Name → ℕ → Command
    → Option MountRow → Option MountRow
mount_after some live reel number (MaterialsLoaded m s r) row = if same r reel
    then Some (record { since = number; machine = m; slot = s; reel = reel }) else row
mount_after some live reel number (MaterialsSpliced m s r) row = if same r reel
    then Some (record { since = number; machine = m; slot = s; reel = reel }) else row
mount_after some live reel number (MaterialsUnloaded m s) row = if live m s then None else row
mount_after some live reel number (MaterialsInstalled m board designators) row =
    if some then row else None
mount_after some live reel number (MaterialsScrapped m s quantity) row = if some then row else None
mount_after some live reel number (CountsTaken counts) row = if some then row else None
mount_after some live reel number command row = row

-- The row of a board after a command, by the products selected before it.
abbrev pub board_after : (Name → Option Name) → Name → Command → Option BoardRow → Option BoardRow
board_after selected board (WorkStarted m b) row =
    if same b board then option_map (λ product.
    record { board = board; product = product; machine = Some m }) (selected m) else row
board_after selected board (WorkCompleted m b) row =
    if same b board then option_map (λ product.
    record { board = board; product = product; machine = None }) (selected m) else row
board_after selected board command row = row

-- A take as a row of `placement`, if its piece was placed.
abbrev pub placed_row : ℕ → ℕ → Take → Option PlacementRow
placed_row number place take = row take.purpose
  where
    row : Purpose → Option PlacementRow
    row (Placed board designator machine slot) = Some (record {
      number = number;
      place = place;
      board = board;
      designator = designator;
      machine = machine;
      slot = slot;
      reel = take.reel;
      overdue = take.overdue;
    })
    row _ = None

-- The row of a placed piece after the entry of a number, by its takes.
abbrev pub placement_after : ℕ → List Take → ℕ → ℕ → Option PlacementRow → Option PlacementRow
placement_after number takes n k row = if number == n
    then option_and_then (placed_row n k) (at_place 1 takes k) else row

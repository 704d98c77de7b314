-- The state tables of a history, each as a lookup by key.
use Rattle.std.specs.Prelude.{ℕ, ◌+◌, ◌==◌, ◌&&◌, Bool, Option, Some, None, is_some, List, [], ◌∷◌, if◌then◌else◌}
use Rattle.std.specs.Option.{option_and_then, option_map}
use Rattle.std.specs.List.{find}
use Rattle.desk_types.specs.declared.command.Command.{Command}
use Rattle.desk_types.specs.declared.command.Command.TheVariants.{MaterialsLoaded, MaterialsSpliced}
use Rattle.desk_types.specs.declared.placement.Placement.{Placement}
use Rattle.desk_types.specs.declared.sheet.SheetRow.{SheetRow}
use Rattle.desk_types.specs.declared.view.Left.{Left}
use Rattle.desk_types.specs.declared.view.ReelView.{ReelView}
use Rattle.desk_types.specs.Id.{Name, same}
use Rattle.desk_types.specs.History.{History, latest}
use Rattle.desk_types.specs.Setup.{is_part, is_alternate, sheet_of, selected_on}
use Rattle.desk_types.specs.Pieces.{is_mounted, found_of}
use Rattle.desk_types.specs.Work.{start_by, is_in_work_on, product_of}
use Rattle.desk_types.specs.View.{reel_view}
use Rattle.desk_types.specs.Placements.{placements_of}
use Rattle.desk_types.specs.declared.row.ReelRow.{ReelRow}
use Rattle.desk_types.specs.declared.row.MountRow.{MountRow}
use Rattle.desk_types.specs.declared.row.BoardRow.{BoardRow}
use Rattle.desk_types.specs.declared.row.PlacementRow.{PlacementRow}

-- ---- sheet_row

-- The element at a place, counting from n.
abbrev pub at_place : {X : Type 0} → ℕ → List X → ℕ → Option X
at_place n [] place = None
at_place n (x ∷ xs) place = if n == place then Some x else at_place (n + 1) xs place

-- The row at a place, from 1, of the product's sheet on the machine.
abbrev pub sheet_row : History → Name → Name → ℕ → Option SheetRow
sheet_row H product machine place =
    option_and_then (λ rows. at_place 1 rows place) (sheet_of H product machine)

-- ---- reel

-- The columns of a reel's view that don't change with the minute.
abbrev pub columns_of : ReelView → ReelRow
columns_of view = record {
  reel = view.reel;
  part = view.part;
  lot = view.lot;
  level = view.level;
  label = view.label;
  received = view.received;
  placed = view.placed;
  scrapped = view.scrapped;
  remaining = view.remaining;
  used = view.used;
  open_since = view.open_since;
  baked = view.baked;
}

-- The view of a row, with what the row doesn't have.
abbrev pub view_with : ReelRow → ℕ → Left → Bool → ReelView
view_with row found left mounted = record {
  reel = row.reel;
  part = row.part;
  lot = row.lot;
  level = row.level;
  label = row.label;
  received = row.received;
  found = found;
  placed = row.placed;
  scrapped = row.scrapped;
  remaining = row.remaining;
  left = left;
  mounted = mounted;
  is_open = is_some row.open_since;
  used = row.used;
  open_since = row.open_since;
  baked = row.baked;
}

-- A received reel's row.
abbrev pub reel_row : History → Name → Option ReelRow
reel_row H reel = option_map columns_of (reel_view H reel)

-- ---- mount

-- The slot where the command loads or splices the reel, with its entry's number.
abbrev pub put_by : Name → ℕ → Command → Option MountRow
put_by reel number (MaterialsLoaded m s r) = if same r reel
    then Some (record { since = number; machine = m; slot = s; reel = reel }) else None
put_by reel number (MaterialsSpliced m s r) = if same r reel
    then Some (record { since = number; machine = m; slot = s; reel = reel }) else None
put_by reel number _ = None

-- The last load or splice of the reel.
abbrev pub last_put : History → Name → Option MountRow
last_put H reel = latest (λ e. put_by reel e.number e.stamped.command) H

-- A mounted reel's row.
abbrev pub mount_row : History → Name → Option MountRow
mount_row H reel = if is_mounted H reel then last_put H reel else None

-- ---- board

-- The machine that last started the board, if the board is in work there.
abbrev pub work_machine : History → Name → Option Name
work_machine H board =
    option_and_then (λ machine. if is_in_work_on H machine board then Some machine else None)
    (latest (λ e. start_by board e.stamped.command) H)

-- A started board's row.
abbrev pub board_row : History → Name → Option BoardRow
board_row H board = option_map (λ product. record {
  board = board;
  product = product;
  machine = work_machine H board;
}) (product_of H board)

-- ---- placement

-- A placement's columns; its reel and entry have the part, lot and minute.
abbrev pub placement_columns : Placement → PlacementRow
placement_columns p = record {
  number = p.number;
  place = p.place;
  board = p.board;
  designator = p.designator;
  machine = p.machine;
  slot = p.slot;
  reel = p.reel;
  overdue = p.overdue;
}

-- A placed piece's row.
abbrev pub placement_row : History → ℕ → ℕ → Option PlacementRow
placement_row H number place = option_map placement_columns
    (find (λ (p : Placement). p.number == number && p.place == place) (placements_of H))

-- ---- found

-- The pieces that counts found on the reel, if any.
abbrev pub found_row : History → Name → Option ℕ
found_row H reel = if found_of H reel == 0 then None else Some (found_of H reel)

-- ---- all tables

-- The nine state tables, each by its key; a `mount` row is found by its reel.
pub record Tables : Type 0 where
  pub parts : Name → Bool
  pub alternates : Name → Name → Bool
  pub sheets : Name → Name → ℕ → Option SheetRow
  pub selected : Name → Option Name
  pub reels : Name → Option ReelRow
  pub mounts : Name → Option MountRow
  pub boards : Name → Option BoardRow
  pub placements : ℕ → ℕ → Option PlacementRow
  pub found : Name → Option ℕ

-- The state tables of a history.
abbrev pub tables_of : History → Tables
tables_of H = record {
  parts = is_part H;
  alternates = is_alternate H;
  sheets = sheet_row H;
  selected = selected_on H;
  reels = reel_row H;
  mounts = mount_row H;
  boards = board_row H;
  placements = placement_row H;
  found = found_row H;
}

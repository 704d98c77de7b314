-- The edits of a command, by the history before it. These are no definitions of the tables; the code and its proof use
-- them.
use Rattle.std.specs.Prelude.{◌≡◌, ◌<◌, ◌^◌, ℕ, ◌+◌, ◌-◌, ◌==◌, nat_lt, Bool, true, false, Option, Some, None, List, [], ◌∷◌, ◌++◌, map, if◌then◌else◌, unwrap_or}
use Rattle.std.specs.Option.{option_map, option_and_then, option_or, option_to_list, option_map_or}
use Rattle.std.specs.List.{AllByRecursion, list_any, filter_map, flat_map}
use Rattle.desk_types.specs.declared.command.Command.{Command}
use Rattle.desk_types.specs.declared.command.Command.TheVariants.{PartDefined, AlternateAllowed, SheetDefined, ProductSelected, ReelReceived, ReelOpened, ReelSealed, ReelBaked, MaterialsLoaded, MaterialsSpliced, MaterialsUnloaded, WorkStarted, WorkCompleted, MaterialsInstalled, MaterialsScrapped, CountsTaken, ClockSet}
use Rattle.desk_types.specs.declared.count.CountRow.{CountRow}
use Rattle.desk_types.specs.declared.sheet.SheetRow.{SheetRow}
use Rattle.desk_types.specs.declared.take.Pick.{Pick}
use Rattle.desk_types.specs.declared.take.Take.{Take}
use Rattle.desk_types.specs.declared.view.Mount.{Mount}
use Rattle.desk_types.specs.declared.view.ReelView.{ReelView}
use Rattle.desk_types.specs.Id.{Name, same}
use Rattle.desk_types.specs.Row.{fresh_row, opened_row, sealed_row, baked_row}
use Rattle.desk_types.specs.History.{History}
use Rattle.desk_types.specs.Setup.{sheet_of, selected_on}
use Rattle.desk_types.specs.Pieces.{pieces_picked, is_placed, placed_of, scrapped_of}
use Rattle.desk_types.specs.View.{mounts_on, reel_view}
use Rattle.desk_types.specs.declared.row.ReelRow.{ReelRow}
use Rattle.desk_types.specs.declared.row.PlacementRow.{PlacementRow}
use Rattle.desk_types.specs.declared.edit.RowEdit.{RowEdit}
use Rattle.desk_types.specs.declared.edit.RowEdit.TheVariants.{TakeSheetRow, TakeMount, PutPart, PutAlternate, PutSheetRow, PutSelected, PutReel, PutMount, PutBoard, PutPlacement, PutFound}
use Rattle.desk_types.specs.Tables.{Tables, at_place, columns_of, reel_row}
use Rattle.desk_types.specs.Edits.{with_edits}
use Rattle.state_rows.specs.After.{placed_in, scrapped_in, placed_row}

-- ---- sheets

-- The rows of a sheet before are taken out, and its rows now are put in.
abbrev pub taken_rows : Name → Name → ℕ → List SheetRow → List RowEdit
taken_rows product machine n [] = []
taken_rows product machine n (row ∷ rows) =
    TakeSheetRow product machine n ∷ taken_rows product machine (n + 1) rows

abbrev pub put_rows : Name → Name → ℕ → List SheetRow → List RowEdit
put_rows product machine n [] = []
put_rows product machine n (row ∷ rows) =
    PutSheetRow product machine n row ∷ put_rows product machine (n + 1) rows

-- ---- reels

-- The changed row of a reel that has one.
abbrev pub reel_edit : (ReelRow → ReelRow) → Option ReelRow → List RowEdit
reel_edit change row = option_to_list (option_map (λ (r : ReelRow). PutReel (change r)) row)

-- ---- slots

-- The reels of a slot, from the machine's live reels.
abbrev pub reel_on_slot : Name → Mount → Option Name
reel_on_slot slot mount = if same mount.slot slot then Some mount.reel else None

abbrev pub reels_on : History → Name → Name → List Name
reels_on H machine slot = filter_map (reel_on_slot slot) (unwrap_or (mounts_on H machine) [])

-- ---- boards

abbrev pub board_edit : Name → Option Name → Option Name → List RowEdit
board_edit board machine product = option_to_list
    (option_map (λ p. PutBoard (record { board = board; product = p; machine = machine })) product)

-- ---- takes

abbrev pub pick_of : Take → Pick
pick_of take = record { reel = take.reel; quantity = take.quantity; purpose = take.purpose }

-- Whether some pick is of the reel.
abbrev pub is_picked : List Pick → Name → Bool
is_picked picks reel = list_any (λ (p : Pick). same p.reel reel) picks

-- The row of a reel off which these pieces come.
abbrev pub less_row : List Pick → ReelRow → ReelRow
less_row picks row = record row {
  placed = row.placed + placed_in picks row.reel;
  scrapped = row.scrapped + scrapped_in picks row.reel;
  remaining = row.remaining - pieces_picked picks row.reel;
}

-- The rows of the reels that lose these pieces, if the reels have these rows before.
abbrev pub picked_rows : (Name → Option ReelRow) → List Pick → Name → Option ReelRow
picked_rows rows picks r = if is_picked picks r then option_map (less_row picks) (rows r) else None

-- Whether the row is one of a reel with nothing left.
abbrev pub is_spent : Option ReelRow → Bool
is_spent row = option_map_or (λ (r : ReelRow). r.remaining == 0) row false

-- The tables after some reels have these rows.
abbrev pub with_reels : (Name → Option ReelRow) → Tables → Tables
with_reels rows t = record t { reels = λ r. option_or (rows r) (t.reels r) }

-- The tables after the spent ones of these rows are on no slot.
abbrev pub without_spent : (Name → Option ReelRow) → Tables → Tables
without_spent rows t = record t { mounts = λ r. if is_spent (rows r) then None else t.mounts r }

-- The tables after both.
abbrev pub after_rows : (Name → Option ReelRow) → Tables → Tables
after_rows rows t = with_reels rows (without_spent rows t)

-- The rows of a message's pieces, the first of them at this place.
abbrev pub place_rows : ℕ → ℕ → List Take → List RowEdit
place_rows number n [] = []
place_rows number n (take ∷ takes) =
    option_to_list (option_map (λ (r : PlacementRow). PutPlacement r) (placed_row number n take))
    ++ place_rows number (n + 1) takes

-- The edit that takes a reel off its slot, if its row has nothing left.
abbrev pub take_spent : ReelRow → List RowEdit
take_spent row = if row.remaining == 0 then TakeMount row.reel ∷ [] else []

-- The rows are of the reels by whose names they are found.
abbrev pub AreNamed : (Name → Option ReelRow) → Type 0
AreNamed rows = (r : Name) (row : ReelRow) → rows r ≡ Some row → row.reel ≡ r

-- One pick's pieces off a row.
abbrev pub less_by : Pick → ReelRow → ReelRow
less_by pick row = record row {
  placed = row.placed + (if is_placed pick.purpose then pick.quantity else 0);
  scrapped = row.scrapped + (if is_placed pick.purpose then 0 else pick.quantity);
  remaining = row.remaining - pick.quantity;
}

-- The sums fit.
abbrev pub LessFits : Pick → ReelRow → Type 0
LessFits pick row =
    (row.placed + (if is_placed pick.purpose then pick.quantity else 0) < 2 ^ 64)
    × (row.scrapped + (if is_placed pick.purpose then 0 else pick.quantity) < 2 ^ 64)

abbrev pub ArePiecesFitting : History → List Pick → Type 0
ArePiecesFitting H picks = (r : Name) → (placed_of H r + placed_in picks r < 2 ^ 64)
    × (scrapped_of H r + scrapped_in picks r < 2 ^ 64)

-- The tables after the pieces of an entry are placed.
abbrev pub after_placing : ℕ → List Take → Tables → Tables
after_placing number takes t = record t {
  placements = λ n k. option_or (if number == n
      then option_and_then (placed_row n k) (at_place 1 takes k) else None) (t.placements n k);
}

-- The edits of takes: the reels with nothing left are taken off, the gathered rows are put, and then the pieces are placed.
pub record AreTakeEdits (H : History) (number : ℕ) (takes : List Take)
    (edits : List RowEdit) : Type 0 where
  pub rows : List ReelRow
  pub each : AllByRecursion
      (λ row. picked_rows (reel_row H) (map pick_of takes) row.reel ≡ Some row) rows
  pub are : edits ≡ (flat_map take_spent rows ++ map (λ row. PutReel row) rows)
      ++ place_rows number 1 takes
  pub lead : (t : Tables) → with_edits edits t
      ≡ after_placing number takes (after_rows (picked_rows (reel_row H) (map pick_of takes)) t)

-- ---- counts

-- A reel's row with this number of pieces counted. Missing pieces are scrapped, and extra pieces received.
abbrev pub counted_row : ℕ → ReelRow → ReelRow
counted_row n row = record row {
  received = row.received + (n - row.remaining);
  scrapped = row.scrapped + (row.remaining - n);
  remaining = n;
}

-- The edits of a count for a reel with this view: its row, and its found pieces if the count is above the pieces left.
abbrev pub counted_edits : ℕ → Option ReelView → List RowEdit
counted_edits n None = []
counted_edits n (Some view) =
    PutReel (counted_row n (columns_of view)) ∷ (if nat_lt view.remaining n
    then PutFound view.reel (view.found + (n - view.remaining)) ∷ [] else [])

-- The sums fit.
pub record CountFits (n : ℕ) (view : ReelView) : Type 0 where
  pub received : view.received + (n - view.remaining) < 2 ^ 64
  pub scrapped : view.scrapped + (view.remaining - n) < 2 ^ 64
  pub found : view.found + (n - view.remaining) < 2 ^ 64

abbrev pub count_edits : History → CountRow → List RowEdit
count_edits H row = counted_edits row.quantity (reel_view H row.reel)

-- ---- any command

-- These are edits of the command.
abbrev pub AreEditsOf : History → ℕ → ℕ → List Take → Command → List RowEdit → Type 0
AreEditsOf H number minute takes (PartDefined part) edits = edits ≡ PutPart part ∷ []
AreEditsOf H number minute takes (AlternateAllowed part alternate) edits =
    edits ≡ PutAlternate part alternate ∷ []
AreEditsOf H number minute takes (SheetDefined product machine rows) edits =
    edits ≡ taken_rows product machine 1 (unwrap_or (sheet_of H product machine) [])
    ++ put_rows product machine 1 rows
AreEditsOf H number minute takes (ProductSelected machine product) edits =
    edits ≡ PutSelected machine product ∷ []
AreEditsOf H number minute takes (ReelReceived reel part lot moisture quantity) edits =
    edits ≡ PutReel (fresh_row reel (record {
      part = part;
      lot = lot;
      moisture = moisture;
      quantity = quantity;
      effective = minute;
    })) ∷ []
AreEditsOf H number minute takes (ReelOpened reel) edits =
    edits ≡ reel_edit (opened_row minute) (reel_row H reel)
AreEditsOf H number minute takes (ReelSealed reel) edits =
    edits ≡ reel_edit (sealed_row minute) (reel_row H reel)
AreEditsOf H number minute takes (ReelBaked reel) edits =
    edits ≡ reel_edit baked_row (reel_row H reel)
AreEditsOf H number minute takes (MaterialsLoaded machine slot reel) edits =
    edits ≡ PutMount (record { since = number; machine = machine; slot = slot; reel = reel })
    ∷ reel_edit (opened_row minute) (reel_row H reel)
AreEditsOf H number minute takes (MaterialsSpliced machine slot reel) edits =
    edits ≡ PutMount (record { since = number; machine = machine; slot = slot; reel = reel })
    ∷ reel_edit (opened_row minute) (reel_row H reel)
AreEditsOf H number minute takes (MaterialsUnloaded machine slot) edits =
    edits ≡ map (λ reel. TakeMount reel) (reels_on H machine slot)
AreEditsOf H number minute takes (WorkStarted machine board) edits =
    edits ≡ board_edit board (Some machine) (selected_on H machine)
AreEditsOf H number minute takes (WorkCompleted machine board) edits =
    edits ≡ board_edit board None (selected_on H machine)
AreEditsOf H number minute takes (MaterialsInstalled machine board designators) edits =
    AreTakeEdits H number takes edits
AreEditsOf H number minute takes (MaterialsScrapped machine slot quantity) edits =
    AreTakeEdits H number takes edits
AreEditsOf H number minute takes (CountsTaken counts) edits =
    edits ≡ flat_map (count_edits H) counts
AreEditsOf H number minute takes ClockSet edits = edits ≡ []

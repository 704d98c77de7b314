-- The edits of an accepted command turn the tables of a history into those of the history with it.
use Rattle.desk_types.proofs.Common.{[], ◌&&◌, ◌+◌, ◌-◌, ◌==◌, ◌||◌, ◌∙◌, ◌∷◌, ◌≡◌, and_parts, ap, arith}
use Rattle.desk_types.proofs.Common.{at_place, baked_by, baked_row, board_row, Bool, columns_of}
use Rattle.desk_types.proofs.Common.{command_refusal, eqb-true, false, found_by, found_of, found_row}
use Rattle.desk_types.proofs.Common.{fresh_row, History, if◌then◌else◌, is_alternate, is_mounted, is_part}
use Rattle.desk_types.proofs.Common.{is_placed, is_some, IsJudged, last_put, left_of, LevelWithLabel, List}
use Rattle.desk_types.proofs.Common.{live_on, map, mount_row, Name, nat_lt, None, open_by, opened_row, Option}
use Rattle.desk_types.proofs.Common.{option_and_then, option_map, option_map_or, option_or, picks_of}
use Rattle.desk_types.proofs.Common.{pieces_by, pieces_picked, placement_row, receipt_by, receipt_of}
use Rattle.desk_types.proofs.Common.{reel_row, refl, same, same-refl, same-sym, same-true, sealed_row}
use Rattle.desk_types.proofs.Common.{selected_on, selection_by, sheet_by, sheet_of, since_after, Some, sym}
use Rattle.desk_types.proofs.Common.{Tables, tables_of, take_of, takes_by, true, unwrap_or, view_of}
use Rattle.desk_types.proofs.Common.{with_edits, ℕ}
use Rattle.desk_laws.proofs.Common.{AlternateAllowed, BoardRow, ClockSet, Command, Counted, CountRow}
use Rattle.desk_laws.proofs.Common.{CountsTaken, Entry, MaterialsInstalled, MaterialsLoaded}
use Rattle.desk_laws.proofs.Common.{MaterialsScrapped, MaterialsSpliced, MaterialsUnloaded, PartDefined, Pick}
use Rattle.desk_laws.proofs.Common.{Placed, ProductSelected, Purpose, Receipt, ReelBaked, ReelOpened}
use Rattle.desk_laws.proofs.Common.{ReelReceived, ReelRow, ReelSealed, Rejected, SheetDefined, SheetRow, Take}
use Rattle.desk_laws.proofs.Common.{Two, WorkCompleted, WorkStarted}
use Rattle.desk_laws.proofs.{Accepted.next-accepted, BoardsInWork.completable, BoardsInWork.startable}
use Rattle.desk_laws.proofs.{CountedReels.unmounted-rows, InstalledPieces.AreUnplaced}
use Rattle.desk_laws.proofs.{InstalledPieces.unplaced-count, Mounted.left_after, Mounted.mounted-is}
use Rattle.desk_laws.proofs.{Mounted.some_left, Mounts.has}
use Rattle.desk_types.specs.{Setup.allows, Setup.defines, Tables.sheet_row, declared.edit.RowEdit.RowEdit}
use Rattle.desk_types.specs.{declared.row.MountRow.MountRow, declared.row.PlacementRow.PlacementRow}
use Rattle.state_rows.proofs.{BoardRows.board_row-next, BoardRows.some-of, BoardRows.working}
use Rattle.state_rows.proofs.{Counts.counts-lead, Counts.uncounted-left, EditLists.mounts-taken}
use Rattle.state_rows.proofs.{EditLists.rows-put, EditLists.rows-taken, EditLists.same-tables}
use Rattle.state_rows.proofs.{EditLists.with_edits-append, MountRows.mount_row-next}
use Rattle.state_rows.proofs.{PlacementRows.placement_row-next, PlacementRows.unplaced-later}
use Rattle.state_rows.proofs.{ReelRows.found_row-next, ReelRows.reel_row-next, ReelRows.same-rows}
use Rattle.state_rows.proofs.{Slots.reels_on-live, TablesLess.mounts-took, TablesLess.OnlyTakes}
use Rattle.state_rows.proofs.{TablesLess.picks-again, TablesLess.placements-took, TablesLess.reels-took}
use Rattle.state_rows.specs.{After.bakes, After.board_after, After.found_after, After.mount_after}
use Rattle.state_rows.specs.{After.placed_row, After.placement_after, After.reel_after, After.step_row}
use Rattle.state_rows.specs.{After.used_after, EditsOf.after_placing, EditsOf.after_rows, EditsOf.AreEditsOf}
use Rattle.state_rows.specs.{EditsOf.board_edit, EditsOf.pick_of, EditsOf.picked_rows, EditsOf.put_rows}
use Rattle.state_rows.specs.{EditsOf.reel_edit, EditsOf.reels_on, EditsOf.taken_rows, Kept.unnumbered}
use Rattle.state_rows.specs.{Kept.without_number}
use Rattle.std.proofs.Common.{add-zero}

-- ---- one entry more

-- The tables of the history with a command, in terms of the earlier tables.
abbrev tables_after : History → ℕ → ℕ → Command → Tables
tables_after H number minute command = record {
  parts = λ p. defines p command || is_part H p;
  alternates = λ p q. allows p q command || is_alternate H p q;
  sheets = λ p m k. option_and_then (λ rows. at_place 1 rows k) (option_or (sheet_by p m command) (sheet_of H p m));
  selected = λ m. option_or (selection_by m command) (selected_on H m);
  reels = λ r. reel_after minute (picks_of H command) r command (reel_row H r);
  mounts = λ r. mount_after (nat_lt 0 (left_after H command r)) (λ m s. has (live_on H m s) r) r number command (mount_row H r);
  boards = λ b. board_after (selected_on H) b command (board_row H b);
  placements = λ n k. placement_after number (takes_by H minute command) n k (placement_row H n k);
  found = λ r. found_after (left_of H r) r command (found_row H r);
}

-- The row of a placed piece after edits of this number, whether or not a piece has the number already.
abbrev placement_by : ℕ → List Take → ℕ → ℕ → Option PlacementRow → Option PlacementRow
placement_by number takes n k before = option_or (if number == n then option_and_then (placed_row n k) (at_place 1 takes k) else None) before

-- The tables after the edits of a command, of whatever number.
abbrev tables_by : History → ℕ → ℕ → Command → Tables
tables_by H number minute command =
    record (tables_after H number minute command) { placements = λ n k. placement_by number (takes_by H minute command) n k (placement_row H n k) }

tables-next : (H : History) (e : Entry) → IsJudged Two (e ∷ H) → tables_of (e ∷ H) ≡ tables_after H e.number e.effective e.stamped.command
unfolding left_of
tables-next H e judged =
    same-tables _ _ (λ p. refl) (λ p q. refl) (λ p m k. refl) (λ m. refl)
    (λ r. reel_row-next H e r judged) (λ r. mount_row-next H e r judged) (λ b. board_row-next H e b judged) (λ n k. placement_row-next H e n k judged) (λ r. found_row-next H e r)

-- ---- commands that take nothing

untaken : (minute : ℕ) (reel : Name) (command : Command) (row : ReelRow) → pieces_by reel command ≡ None → ((left : ℕ) → found_by left reel command ≡ 0)
    → step_row minute [] reel command row
    ≡ record row {
      used = used_after (bakes reel command) (open_by reel command) minute row.open_since row.used;
      open_since = since_after (open_by reel command) minute row.open_since;
      baked = unwrap_or (baked_by reel command) row.baked;
    }
untaken minute reel command row told finds =
    same-rows _ _ refl refl refl refl refl
    (let none = finds row.remaining in let is : row.received + found_by row.remaining reel command ≡ row.received = omega (arith, none) in is)
    (add-zero row.placed) (add-zero row.scrapped)
    (ap (λ o. unwrap_or o (row.remaining - 0)) told ∙ (let is : row.remaining - 0 ≡ row.remaining = omega arith in is)) refl refl refl

quiet : (H : History) (minute : ℕ) (command : Command) (r : Name) → open_by r command ≡ None → baked_by r command ≡ None → pieces_by r command ≡ None
    → ((left : ℕ) → found_by left r command ≡ 0) → reel_row H r ≡ option_map (step_row minute [] r command) (reel_row H r)
quiet H minute command r out baked told finds = reels-took H minute [] command r (record { out = out; baked = baked; told = told; finds = finds })

unplaced : (H : History) (number n k : ℕ) → placement_row H n k ≡ placement_by number [] n k (placement_row H n k)
unplaced H number n k = by (number == n)
  where
    by : (b : Bool) → placement_row H n k ≡ option_or (if b then option_and_then (placed_row n k) (at_place 1 [] k) else None) (placement_row H n k)
    by true = refl
    by false = refl

unfound : (H : History) (r : Name) (command : Command) → found_by (left_of H r) r command ≡ 0 → found_row H r ≡ found_after (left_of H r) r command (found_row H r)
unfound H r command none = by (found_of H r == 0) refl
  where
    by : (b : Bool) → (found_of H r == 0) ≡ b
        → (if b then None else Some (found_of H r))
        ≡ (if (unwrap_or (if b then None else Some (found_of H r)) 0 + found_by (left_of H r) r command) == 0 then None else Some (unwrap_or (if b then None else Some (found_of H r)) 0 + found_by (left_of H r) r command))
    by true is = ap (λ n. if n == 0 then None else Some n) (let nothing : 0 ≡ 0 + found_by (left_of H r) r command = omega (arith, none) in nothing)
    by false is = sym (ap (λ n. if n == 0 then None else Some n) (let all : found_of H r + found_by (left_of H r) r command ≡ found_of H r = omega (arith, none) in all) ∙ ap (λ b. if b then None else Some (found_of H r)) is)

-- ---- reels

reel-edited : (H : History) (reel : Name) (change : ReelRow → ReelRow) (t : Tables) → ((row : ReelRow) → (change row).reel ≡ row.reel)
    → with_edits (reel_edit change (reel_row H reel)) t
    ≡ record t { reels = λ q. if same reel q then option_or (option_map change (reel_row H reel)) (t.reels q) else t.reels q }
reel-edited H reel change t keeps = by (receipt_of H reel)
  where
    none : (b : Bool) (o : Option ReelRow) → o ≡ (if b then o else o)
    none true o = refl
    none false o = refl

    by : (said : Option Receipt) → with_edits (reel_edit change (option_map columns_of (option_map (view_of H reel) said))) t
        ≡ record t { reels = λ q. if same reel q then option_or (option_map change (option_map columns_of (option_map (view_of H reel) said))) (t.reels q) else t.reels q }
    by None = ap (λ (f : Name → Option ReelRow). record t { reels = f }) (λ j q. none (same reel q) (t.reels q) j)
    by (Some receipt) =
        ap (λ (f : Name → Option ReelRow). record t { reels = f })
        (λ j q. if same (keeps (columns_of (view_of H reel receipt)) j) q then Some (change (columns_of (view_of H reel receipt))) else t.reels q)

changed : (H : History) (minute : ℕ) (reel q : Name) (command : Command) (change : ReelRow → ReelRow) (out : Bool) (baked : Option Bool)
    → open_by q command ≡ (if same reel q then Some out else None) → baked_by q command ≡ (if same reel q then baked else None)
    → pieces_by q command ≡ None → ((left : ℕ) → found_by left q command ≡ 0)
    → ((row : ReelRow) → change row ≡ record row { used = used_after (unwrap_or baked false) (Some out) minute row.open_since row.used; open_since = since_after (Some out) minute row.open_since; baked = unwrap_or baked row.baked })
    → (if same reel q then option_or (option_map change (reel_row H reel)) (reel_row H q) else reel_row H q) ≡ option_map (step_row minute [] q command) (reel_row H q)
changed H minute reel q command change out baked opens bakes_it told finds is = by (same reel q) refl opens bakes_it
  where
    one : (row : Option ReelRow) → open_by q command ≡ Some out → baked_by q command ≡ baked
        → option_or (option_map change row) row ≡ option_map (step_row minute [] q command) row
    one None opens bakes_it = refl
    one (Some row) opens bakes_it =
        ap Some (
        is row
        ∙ sym (ap (λ o. record row { used = used_after (unwrap_or o false) (Some out) minute row.open_since row.used; open_since = since_after (Some out) minute row.open_since; baked = unwrap_or o row.baked }) bakes_it)
        ∙ sym (ap (λ o. record row { used = used_after (bakes q command) o minute row.open_since row.used; open_since = since_after o minute row.open_since; baked = unwrap_or (baked_by q command) row.baked }) opens)
        ∙ sym (untaken minute q command row told finds))

    by : (b : Bool) → same reel q ≡ b → open_by q command ≡ (if b then Some out else None) → baked_by q command ≡ (if b then baked else None)
        → (if b then option_or (option_map change (reel_row H reel)) (reel_row H q) else reel_row H q) ≡ option_map (step_row minute [] q command) (reel_row H q)
    by true here opens bakes_it =
        ap (λ x. option_or (option_map change (reel_row H x)) (reel_row H q)) (same-true reel q here) ∙ one (reel_row H q) opens bakes_it
    by false here opens bakes_it = quiet H minute command q opens bakes_it told finds

neither : (b : Bool) → None ≡ (if◌then◌else◌ {A = Option Bool} b None None)
neither true = refl
neither false = refl

-- ---- boards and sheets

board-edited : (H : History) (board : Name) (machine product : Option Name) (t : Tables) → (p : Name) → product ≡ Some p
    → with_edits (board_edit board machine product) t
    ≡ record t { boards = λ b. if same board b then option_map (λ q. record { board = b; product = q; machine = machine }) product else t.boards b }
board-edited H board machine product t p is = ap (λ o. with_edits (board_edit board machine o) t) is ∙ ap (λ (f : Name → Option BoardRow). record t { boards = f }) (λ j b. one b j) ∙ ap (λ (o : Option Name). record t { boards = λ b. if same board b then option_map (λ q. record { board = b; product = q; machine = machine }) o else t.boards b }) (sym is)
  where
    one : (b : Name) → (if same board b then Some (record { board = board; product = p; machine = machine }) else t.boards b) ≡ (if same board b then Some (record { board = b; product = p; machine = machine }) else t.boards b)
    one b = by (same board b) refl
      where
        row : Name → BoardRow
        row x = record { board = x; product = p; machine = machine }

        by : (c : Bool) → same board b ≡ c → (if c then Some (row board) else t.boards b) ≡ (if c then Some (row b) else t.boards b)
        by true here = ap (λ x. Some (row x)) (same-true board b here)
        by false here = refl

sheet-edited : (H : History) (product machine : Name) (rows : List SheetRow) (p m : Name) (k : ℕ)
    → (if (same product p && same machine m)
    then option_or (at_place 1 rows k) (if ((same product p && same machine m) && is_some (at_place 1 (unwrap_or (sheet_of H product machine) []) k)) then None else sheet_row H p m k)
    else (if ((same product p && same machine m) && is_some (at_place 1 (unwrap_or (sheet_of H product machine) []) k)) then None else sheet_row H p m k))
    ≡ option_and_then (λ rs. at_place 1 rs k) (option_or (if (same product p && same machine m) then Some rows else None) (sheet_of H p m))
sheet-edited H product machine rows p m k = by (same product p && same machine m) refl
  where
    new : Option SheetRow
    new = at_place 1 rows k

    only : (o : Option SheetRow) → o ≡ None → option_or new o ≡ new
    only o none = ap (option_or new) none ∙ last new
      where
        last : (x : Option SheetRow) → option_or x None ≡ x
        last None = refl
        last (Some x) = refl

    out : (o : Option SheetRow) → (if is_some o then None else o) ≡ None
    out None = refl
    out (Some x) = refl

    gone : (sheet : Option (List SheetRow)) → (if is_some (at_place 1 (unwrap_or sheet []) k) then None else option_and_then (λ rs. at_place 1 rs k) sheet) ≡ None
    gone None = refl
    gone (Some rs) = out (at_place 1 rs k)

    by : (b : Bool) → (same product p && same machine m) ≡ b
        → (if b then option_or new (if (b && is_some (at_place 1 (unwrap_or (sheet_of H product machine) []) k)) then None else sheet_row H p m k)
        else (if (b && is_some (at_place 1 (unwrap_or (sheet_of H product machine) []) k)) then None else sheet_row H p m k))
        ≡ option_and_then (λ rs. at_place 1 rs k) (option_or (if b then Some rows else None) (sheet_of H p m))
    by true here =
        let both = and_parts (same product p) (same machine m) here in
        only _ (
        ap (λ x. if is_some (at_place 1 (unwrap_or (sheet_of H product machine) []) k) then None else sheet_row H x m k) (sym (same-true product p both.0))
        ∙ ap (λ x. if is_some (at_place 1 (unwrap_or (sheet_of H product machine) []) k) then None else sheet_row H product x k) (sym (same-true machine m both.1))
        ∙ gone (sheet_of H product machine))
    by false here = refl

-- ---- mounts and receipts

put-row : (H : History) (number : ℕ) (machine slot reel r : Name)
    → (if same reel r then Some (record { since = number; machine = machine; slot = slot; reel = reel }) else mount_row H r)
    ≡ (if same reel r then Some (record { since = number; machine = machine; slot = slot; reel = r }) else mount_row H r)
put-row H number machine slot reel r = by (same reel r) refl
  where
    row : Name → MountRow
    row x = record { since = number; machine = machine; slot = slot; reel = x }

    by : (b : Bool) → same reel r ≡ b → (if b then Some (row reel) else mount_row H r) ≡ (if b then Some (row r) else mount_row H r)
    by true here = ap (λ x. Some (row x)) (same-true reel r here)
    by false here = refl

received-row : (H : History) (minute : ℕ) (reel part lot : Name) (moisture : LevelWithLabel) (quantity : ℕ) (r : Name)
    → (if same reel r then Some (fresh_row reel (record { part = part; lot = lot; moisture = moisture; quantity = quantity; effective = minute })) else reel_row H r)
    ≡ reel_after minute [] r (ReelReceived reel part lot moisture quantity) (reel_row H r)
received-row H minute reel part lot moisture quantity r = by (same reel r) refl
  where
    receipt : Receipt
    receipt = record { part = part; lot = lot; moisture = moisture; quantity = quantity; effective = minute }

    by : (b : Bool) → same reel r ≡ b
        → (if b then Some (fresh_row reel receipt) else reel_row H r)
        ≡ option_or (option_map (fresh_row r) (if b then Some receipt else None)) (option_map (step_row minute [] r (ReelReceived reel part lot moisture quantity)) (reel_row H r))
    by true here = ap (λ x. Some (fresh_row x receipt)) (same-true reel r here)
    by false here =
        quiet H minute (ReelReceived reel part lot moisture quantity) r (ap (λ b. if b then Some false else None) here) (ap (λ b. if b then Some false else None) here)
        (ap (λ b. if b then Some quantity else None) here) (λ left. refl)

-- ---- counts

-- A count leaves mounted reels unchanged, since it counts none of them.
counted-mount : (H : History) (minute : ℕ) (counts : List CountRow) → IsJudged Two H → command_refusal Two H minute (CountsTaken counts) ≡ None
    → (r : Name) → mount_row H r ≡ (if nat_lt 0 (left_after H (CountsTaken counts) r) then mount_row H r else None)
unfolding command_refusal
counted-mount H minute counts judged accepted r = by (is_mounted H r) refl
  where
    none : (b : Bool) → None ≡ (if◌then◌else◌ {A = Option MountRow} b None None)
    none true = refl
    none false = refl

    by : (b : Bool) → is_mounted H r ≡ b → (if b then last_put H r else None) ≡ (if nat_lt 0 (left_after H (CountsTaken counts) r) then (if b then last_put H r else None) else None)
    by false rests = none (nat_lt 0 (left_after H (CountsTaken counts) r))
    by true mounted =
        let absent = unmounted-rows H [] counts r accepted mounted in
        let some = (and_parts _ (some_left H r) (sym (mounted-is H r judged) ∙ mounted)).1 in
        sym (ap (λ n. if nat_lt 0 n then last_put H r else None) (uncounted-left H counts r absent) ∙ ap (λ b. if b then last_put H r else None) some)

count-places : (H : History) (minute n k i : ℕ) (picks : List Pick) → AreUnplaced picks → option_and_then (placed_row n k) (at_place i (map (take_of H minute) picks) k) ≡ None
count-places H minute n k i [] all = refl
count-places H minute n k i (p ∷ ps) (first, all) = by (i == k) (count-places H minute n k (i + 1) ps all)
  where
    off : (purpose : Purpose) → is_placed purpose ≡ false → placed_row n k (record (take_of H minute p) { purpose = purpose }) ≡ None
    off (Placed board d machine slot) is = cc
    off (Rejected machine slot) is = refl
    off Counted is = refl

    by : (b : Bool) → option_and_then (placed_row n k) (at_place (i + 1) (map (take_of H minute) ps) k) ≡ None
        → option_and_then (placed_row n k) (if b then Some (take_of H minute p) else at_place (i + 1) (map (take_of H minute) ps) k) ≡ None
    by true rest = off p.purpose first
    by false rest = rest

counted-places : (H : History) (minute number n k : ℕ) (counts : List CountRow)
    → placement_row H n k ≡ placement_by number (takes_by H minute (CountsTaken counts)) n k (placement_row H n k)
counted-places H minute number n k counts = by (number == n)
  where
    by : (b : Bool) → placement_row H n k ≡ option_or (if b then option_and_then (placed_row n k) (at_place 1 (takes_by H minute (CountsTaken counts)) k) else None) (placement_row H n k)
    by true = sym (ap (λ o. option_or o (placement_row H n k)) (count-places H minute n k 1 (picks_of H (CountsTaken counts)) (unplaced-count (left_of H) counts)))
    by false = refl

-- ---- any command

lead-took : (H : History) (minute number : ℕ) (command : Command) (edits : List RowEdit) → IsJudged Two H
    → ((t : Tables) → with_edits edits t ≡ after_placing number (takes_by H minute command) (after_rows (picked_rows (reel_row H) (map pick_of (takes_by H minute command))) t))
    → ((p : Name) → is_part H p ≡ (defines p command || is_part H p)) → ((p q : Name) → is_alternate H p q ≡ (allows p q command || is_alternate H p q))
    → ((p m : Name) → sheet_by p m command ≡ None) → ((m : Name) → selection_by m command ≡ None) → ((r : Name) → receipt_by r minute command ≡ None)
    → ((r : Name) → OnlyTakes r command)
    → ((r : Name) → mount_after (nat_lt 0 (left_after H command r)) (λ m s. has (live_on H m s) r) r number command (mount_row H r) ≡ (if nat_lt 0 (left_after H command r) then mount_row H r else None))
    → ((b : Name) → board_row H b ≡ board_after (selected_on H) b command (board_row H b))
    → with_edits edits (tables_of H) ≡ tables_by H number minute command
lead-took H minute number command edits judged are parts alternates sheets selected fresh only mounts boards =
    are (tables_of H)
    ∙ ap (λ ps. after_placing number (takes_by H minute command) (after_rows (picked_rows (reel_row H) ps) (tables_of H))) (picks-again H minute (picks_of H command))
    ∙ same-tables _ _ parts alternates
    (λ p m k. sym (ap (λ o. option_and_then (λ (rows : List SheetRow). at_place 1 rows k) (option_or o (sheet_of H p m))) (sheets p m)))
    (λ m. sym (ap (λ o. option_or o (selected_on H m)) (selected m)))
    (λ r. reels-took H minute (picks_of H command) command r (only r)
    ∙ sym (ap (λ o. option_or (option_map (fresh_row r) o) (option_map (step_row minute (picks_of H command) r command) (reel_row H r))) (fresh r)))
    (λ r. mounts-took H (picks_of H command) command r judged refl (ap (λ o. unwrap_or o (left_of H r - pieces_picked (picks_of H command) r)) (only r).told) ∙ sym (mounts r))
    boards
    (λ n k. refl)
    (λ r. unfound H r command ((only r).finds (left_of H r)))

lead : (H : History) (minute number : ℕ) (command : Command) (edits : List RowEdit) → IsJudged Two H → command_refusal Two H minute command ≡ None
    → AreEditsOf H number minute (takes_by H minute command) command edits
    → with_edits edits (tables_of H) ≡ tables_by H number minute command
unfolding command_refusal
lead H minute number (PartDefined part) edits judged accepted are =
    ap (λ xs. with_edits xs (tables_of H)) are
    ∙ same-tables _ _ (λ p. refl) (λ p q. refl) (λ p m k. refl) (λ m. refl) (λ r. quiet H minute (PartDefined part) r refl refl refl (λ left. refl)) (λ r. refl) (λ b. refl) (λ n k. unplaced H number n k) (λ r. unfound H r (PartDefined part) refl)
lead H minute number (AlternateAllowed part alternate) edits judged accepted are =
    ap (λ xs. with_edits xs (tables_of H)) are
    ∙ same-tables _ _ (λ p. refl) (λ p q. refl) (λ p m k. refl) (λ m. refl) (λ r. quiet H minute (AlternateAllowed part alternate) r refl refl refl (λ left. refl)) (λ r. refl) (λ b. refl) (λ n k. unplaced H number n k) (λ r. unfound H r (AlternateAllowed part alternate) refl)
lead H minute number (SheetDefined product machine rows) edits judged accepted are =
    ap (λ xs. with_edits xs (tables_of H)) are
    ∙ with_edits-append (taken_rows product machine 1 (unwrap_or (sheet_of H product machine) [])) (put_rows product machine 1 rows) (tables_of H)
    ∙ ap (with_edits (put_rows product machine 1 rows)) (rows-taken product machine (unwrap_or (sheet_of H product machine) []) 1 (tables_of H))
    ∙ rows-put product machine rows 1 _
    ∙ same-tables _ _ (λ p. refl) (λ p q. refl) (sheet-edited H product machine rows) (λ m. refl) (λ r. quiet H minute (SheetDefined product machine rows) r refl refl refl (λ left. refl)) (λ r. refl) (λ b. refl) (λ n k. unplaced H number n k) (λ r. unfound H r (SheetDefined product machine rows) refl)
lead H minute number (ProductSelected machine product) edits judged accepted are =
    ap (λ xs. with_edits xs (tables_of H)) are
    ∙ same-tables _ _ (λ p. refl) (λ p q. refl) (λ p m k. refl) (λ m. chosen (same machine m) (selected_on H m)) (λ r. quiet H minute (ProductSelected machine product) r refl refl refl (λ left. refl)) (λ r. refl) (λ b. refl) (λ n k. unplaced H number n k) (λ r. unfound H r (ProductSelected machine product) refl)
  where
    chosen : (b : Bool) (o : Option Name) → (if b then Some product else o) ≡ option_or (if b then Some product else None) o
    chosen true o = refl
    chosen false o = refl
lead H minute number (ReelReceived reel part lot moisture quantity) edits judged accepted are =
    ap (λ xs. with_edits xs (tables_of H)) are
    ∙ same-tables _ _ (λ p. refl) (λ p q. refl) (λ p m k. refl) (λ m. refl) (received-row H minute reel part lot moisture quantity) (λ r. refl) (λ b. refl) (λ n k. unplaced H number n k) (λ r. unfound H r (ReelReceived reel part lot moisture quantity) refl)
lead H minute number (ReelOpened reel) edits judged accepted are =
    ap (λ xs. with_edits xs (tables_of H)) are
    ∙ reel-edited H reel (opened_row minute) (tables_of H) (λ row. refl)
    ∙ same-tables _ _ (λ p. refl) (λ p q. refl) (λ p m k. refl) (λ m. refl)
    (λ r. changed H minute reel r (ReelOpened reel) (opened_row minute) true None refl (neither (same reel r)) refl (λ left. refl) (λ row. refl)) (λ r. refl) (λ b. refl) (λ n k. unplaced H number n k) (λ r. unfound H r (ReelOpened reel) refl)
lead H minute number (ReelSealed reel) edits judged accepted are =
    ap (λ xs. with_edits xs (tables_of H)) are
    ∙ reel-edited H reel (sealed_row minute) (tables_of H) (λ row. refl)
    ∙ same-tables _ _ (λ p. refl) (λ p q. refl) (λ p m k. refl) (λ m. refl)
    (λ r. changed H minute reel r (ReelSealed reel) (sealed_row minute) false None refl (neither (same reel r)) refl (λ left. refl) (λ row. refl)) (λ r. refl) (λ b. refl) (λ n k. unplaced H number n k) (λ r. unfound H r (ReelSealed reel) refl)
lead H minute number (ReelBaked reel) edits judged accepted are =
    ap (λ xs. with_edits xs (tables_of H)) are
    ∙ reel-edited H reel baked_row (tables_of H) (λ row. refl)
    ∙ same-tables _ _ (λ p. refl) (λ p q. refl) (λ p m k. refl) (λ m. refl)
    (λ r. changed H minute reel r (ReelBaked reel) baked_row false (Some true) refl refl refl (λ left. refl) (λ row. refl)) (λ r. refl) (λ b. refl) (λ n k. unplaced H number n k) (λ r. unfound H r (ReelBaked reel) refl)
lead H minute number (MaterialsLoaded machine slot reel) edits judged accepted are =
    ap (λ xs. with_edits xs (tables_of H)) are
    ∙ reel-edited H reel (opened_row minute) _ (λ row. refl)
    ∙ same-tables _ _ (λ p. refl) (λ p q. refl) (λ p m k. refl) (λ m. refl)
    (λ r. changed H minute reel r (MaterialsLoaded machine slot reel) (opened_row minute) true None refl (neither (same reel r)) refl (λ left. refl) (λ row. refl))
    (put-row H number machine slot reel) (λ b. refl) (λ n k. unplaced H number n k) (λ r. unfound H r (MaterialsLoaded machine slot reel) refl)
lead H minute number (MaterialsSpliced machine slot reel) edits judged accepted are =
    ap (λ xs. with_edits xs (tables_of H)) are
    ∙ reel-edited H reel (opened_row minute) _ (λ row. refl)
    ∙ same-tables _ _ (λ p. refl) (λ p q. refl) (λ p m k. refl) (λ m. refl)
    (λ r. changed H minute reel r (MaterialsSpliced machine slot reel) (opened_row minute) true None refl (neither (same reel r)) refl (λ left. refl) (λ row. refl))
    (put-row H number machine slot reel) (λ b. refl) (λ n k. unplaced H number n k) (λ r. unfound H r (MaterialsSpliced machine slot reel) refl)
lead H minute number (MaterialsUnloaded machine slot) edits judged accepted are =
    ap (λ xs. with_edits xs (tables_of H)) are
    ∙ mounts-taken (reels_on H machine slot) (tables_of H) same-sym
    ∙ same-tables _ _ (λ p. refl) (λ p q. refl) (λ p m k. refl) (λ m. refl) (λ r. quiet H minute (MaterialsUnloaded machine slot) r refl refl refl (λ left. refl))
    (λ r. ap (λ b. if b then None else mount_row H r) (reels_on-live H machine slot r judged)) (λ b. refl) (λ n k. unplaced H number n k) (λ r. unfound H r (MaterialsUnloaded machine slot) refl)
lead H minute number (WorkStarted machine board) edits judged accepted are =
    let chosen = some-of (selected_on H machine) (startable H minute machine board accepted).selected in
    ap (λ xs. with_edits xs (tables_of H)) are
    ∙ board-edited H board (Some machine) (selected_on H machine) (tables_of H) chosen.0 chosen.1
    ∙ same-tables _ _ (λ p. refl) (λ p q. refl) (λ p m k. refl) (λ m. refl) (λ r. quiet H minute (WorkStarted machine board) r refl refl refl (λ left. refl)) (λ r. refl) (λ b. refl) (λ n k. unplaced H number n k) (λ r. unfound H r (WorkStarted machine board) refl)
lead H minute number (WorkCompleted machine board) edits judged accepted are =
    let at_work = working H machine board judged (ap (λ o. option_map_or (same board) o false) (completable H machine board accepted) ∙ same-refl board) in
    ap (λ xs. with_edits xs (tables_of H)) are
    ∙ board-edited H board None (selected_on H machine) (tables_of H) at_work.product at_work.is_selected
    ∙ same-tables _ _ (λ p. refl) (λ p q. refl) (λ p m k. refl) (λ m. refl) (λ r. quiet H minute (WorkCompleted machine board) r refl refl refl (λ left. refl)) (λ r. refl) (λ b. refl) (λ n k. unplaced H number n k) (λ r. unfound H r (WorkCompleted machine board) refl)
lead H minute number (MaterialsInstalled machine board ds) edits judged accepted are =
    lead-took H minute number (MaterialsInstalled machine board ds) edits judged are.lead (λ p. refl) (λ p q. refl) (λ p m. refl) (λ m. refl) (λ r. refl)
    (λ r. record { out = refl; baked = refl; told = refl; finds = λ left. refl }) (λ r. refl) (λ b. refl)
lead H minute number (MaterialsScrapped machine slot n) edits judged accepted are =
    lead-took H minute number (MaterialsScrapped machine slot n) edits judged are.lead (λ p. refl) (λ p q. refl) (λ p m. refl) (λ m. refl) (λ r. refl)
    (λ r. record { out = refl; baked = refl; told = refl; finds = λ left. refl }) (λ r. refl) (λ b. refl)
lead H minute number (CountsTaken counts) edits judged accepted are =
    ap (λ xs. with_edits xs (tables_of H)) are
    ∙ counts-lead H minute counts judged accepted
    ∙ same-tables _ _ (λ p. refl) (λ p q. refl) (λ p m k. refl) (λ m. refl) (λ r. refl) (counted-mount H minute counts judged accepted) (λ b. refl)
    (λ n k. counted-places H minute number n k counts) (λ r. refl)
lead H minute number ClockSet edits judged accepted are =
    ap (λ xs. with_edits xs (tables_of H)) are
    ∙ same-tables _ _ (λ p. refl) (λ p q. refl) (λ p m k. refl) (λ m. refl) (λ r. quiet H minute ClockSet r refl refl refl (λ left. refl)) (λ r. refl) (λ b. refl) (λ n k. unplaced H number n k) (λ r. unfound H r ClockSet refl)

module _ (H : History) (e : Entry) (number : ℕ) (edits : List RowEdit) (judged : IsJudged Two (e ∷ H))
    (are : AreEditsOf H number e.effective (takes_by H e.effective e.stamped.command) e.stamped.command edits) where
  lead-next : with_edits edits (tables_of H) ≡ tables_by H number e.effective e.stamped.command
  lead-next = lead H e.effective number e.stamped.command edits judged.1 (next-accepted H e judged.0) are

  -- The edits of the next entry's command turn the tables of a history into those of the history with the entry.
  pub edits-lead : number ≡ e.number → with_edits edits (tables_of H) ≡ tables_of (e ∷ H)
  unfolding left_of
  edits-lead is =
      lead-next
      ∙ ap (λ n. tables_by H n e.effective e.stamped.command) is
      ∙ same-tables _ _ (λ p. refl) (λ p q. refl) (λ p m k. refl) (λ m. refl) (λ r. refl) (λ r. refl) (λ b. refl)
      (λ n k. placements-took (e.number == n) (option_and_then (placed_row n k) (at_place 1 (takes_by H e.effective e.stamped.command) k)) (placement_row H n k)
      (λ at. unplaced-later H n k judged.1 (let one = eqb-true e.number n at in let next = judged.0.number in omega (arith, one, next))))
      (λ r. refl)
      ∙ sym (tables-next H e judged)

  -- Under any number they lead to the same tables, except for values that depend on the number.
  pub edits-lead-same : unnumbered (with_edits edits (tables_of H)) ≡ unnumbered (tables_of (e ∷ H))
  unfolding left_of
  edits-lead-same =
      ap unnumbered lead-next
      ∙ ap (λ (f : Name → Option MountRow). record (unnumbered (tables_after H e.number e.effective e.stamped.command)) { mounts = f }) (λ j r. mounts-same r e.stamped.command j)
      ∙ ap unnumbered (sym (tables-next H e judged))
    where
      put : (a b : ℕ) (r m s : Name) (here : Bool) (row : Option MountRow)
          → option_map without_number (if here then Some (record { since = a; machine = m; slot = s; reel = r }) else row)
          ≡ option_map without_number (if here then Some (record { since = b; machine = m; slot = s; reel = r }) else row)
      put a b r m s true row = refl
      put a b r m s false row = refl

      mounts-same : (r : Name) (command : Command)
          → option_map without_number (mount_after (nat_lt 0 (left_after H command r)) (λ m s. has (live_on H m s) r) r number command (mount_row H r))
          ≡ option_map without_number (mount_after (nat_lt 0 (left_after H command r)) (λ m s. has (live_on H m s) r) r e.number command (mount_row H r))
      mounts-same r (MaterialsLoaded m s reel) = put number e.number r m s (same reel r) (mount_row H r)
      mounts-same r (MaterialsSpliced m s reel) = put number e.number r m s (same reel r) (mount_row H r)
      mounts-same r command = refl

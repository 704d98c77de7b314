-- The tables take the edits of an accepted command one after the other, with their keys and their checks.
use Rattle.desk_types.proofs.Common.{[], ⊤, ◌&&◌, ◌++◌, ◌+◌, ◌-◌, ◌<◌, ◌==◌, ◌||◌, ◌∙◌, ◌∷◌, ◌≡◌, ◌≤◌}
use Rattle.desk_types.proofs.Common.{AllByRecursion, ap, append-nil, append_assoc, AreBalanced, AreTakesFirst}
use Rattle.desk_types.proofs.Common.{arith, at_place, baked_row, Bool, columns_of, command_refusal, false}
use Rattle.desk_types.proofs.Common.{flat_map, fresh_row, History, if◌then◌else◌, is_mounted, is_some}
use Rattle.desk_types.proofs.Common.{IsJudged, last_put, List, list_any, ltb-true, map, Name, nat_lt, ne_eqb}
use Rattle.desk_types.proofs.Common.{None, opened_row, Option, option_and_then, option_map, option_map_or}
use Rattle.desk_types.proofs.Common.{option_or, option_to_list, picks_of, receipt_by, receipt_of, reel_row}
use Rattle.desk_types.proofs.Common.{reel_view, refl, same, same-refl, sealed_row, selected_on, sheet_of}
use Rattle.desk_types.proofs.Common.{Some, subst, sym, Tables, tables_of, takes_by, true, unwrap_or, view_of}
use Rattle.desk_types.proofs.Common.{with_edit, with_edits, ℕ}
use Rattle.desk_laws.proofs.Common.{AlternateAllowed, ClockSet, Command, Counted, CountRow, CountsTaken}
use Rattle.desk_laws.proofs.Common.{Entry, MaterialsInstalled, MaterialsLoaded, MaterialsScrapped}
use Rattle.desk_laws.proofs.Common.{MaterialsSpliced, MaterialsUnloaded, PartDefined, Placed, ProductSelected}
use Rattle.desk_laws.proofs.Common.{Purpose, Receipt, ReelBaked, ReelOpened, ReelReceived, ReelRow}
use Rattle.desk_laws.proofs.Common.{ReelSealed, ReelView, Rejected, SheetDefined, SheetRow, Take, Two}
use Rattle.desk_laws.proofs.Common.{WorkCompleted, WorkStarted}
use Rattle.desk_laws.proofs.Accepted.{mountable, next-accepted}
use Rattle.desk_laws.proofs.Balance.{balance}
use Rattle.desk_types.specs.Edits.{AreNew, IsBalanced, IsNew, takes_out}
use Rattle.desk_types.specs.declared.edit.RowEdit.{RowEdit}
use Rattle.desk_types.specs.declared.edit.RowEdit.TheVariants.{PutFound, PutMount, PutPlacement, PutReel}
use Rattle.desk_types.specs.declared.edit.RowEdit.TheVariants.{PutSheetRow, TakeMount, TakeSheetRow}
use Rattle.desk_types.specs.declared.row.PlacementRow.{PlacementRow}
use Rattle.state_rows.proofs.EditLists.{rows-taken}
use Rattle.state_rows.proofs.ReelRows.{reel_row-next}
use Rattle.state_rows.proofs.TablesLess.{OnlyTakes, picks-again, reels-took}
use Rattle.state_rows.specs.After.{placed_row, step_row}
use Rattle.state_rows.specs.EditsOf.{AreEditsOf, AreTakeEdits, board_edit, count_edits, counted_edits}
use Rattle.state_rows.specs.EditsOf.{counted_row, pick_of, picked_rows, place_rows, put_rows, reel_edit}
use Rattle.state_rows.specs.EditsOf.{reels_on, take_spent, taken_rows}

-- ---- lists of edits

-- These tables take the edits, one after the other.
pub record AreFit (edits : List RowEdit) (t : Tables) : Type 0 where
  pub new : AreNew edits t
  pub takes_first : AreTakesFirst edits
  pub balanced : AreBalanced edits

-- The edit takes no row out, and these tables take it.
abbrev IsPutIn : RowEdit → Tables → Type 0
IsPutIn x t = (takes_out x ≡ false) × IsBalanced x × IsNew x t

abbrev ArePutIn : List RowEdit → Tables → Type 0
ArePutIn [] t = ⊤
ArePutIn (x ∷ xs) t = IsPutIn x t × ArePutIn xs (with_edit x t)

abbrev AreTaken : List RowEdit → Type 0
AreTaken edits = AllByRecursion (λ x. takes_out x ≡ true) edits

put-append : (xs ys : List RowEdit) (t : Tables) → ArePutIn xs t → ArePutIn ys (with_edits xs t) → ArePutIn (xs ++ ys) t
put-append [] ys t first rest = rest
put-append (x ∷ xs) ys t (one, first) rest = (one, put-append xs ys (with_edit x t) first rest)

put-fit : (xs : List RowEdit) (t : Tables) → ArePutIn xs t → AreFit xs t × (list_any takes_out xs ≡ false)
put-fit [] t puts = (record { new = tt; takes_first = tt; balanced = tt }, refl)
put-fit (x ∷ xs) t ((put, balanced, new), puts) =
    let rest = put-fit xs (with_edit x t) puts in (
      record {
        new = (new, rest.0.new);
        takes_first = ((λ any. let none = sym rest.1 ∙ any in cc), rest.0.takes_first);
        balanced = (balanced, rest.0.balanced);
      },
      ap (λ b. b || list_any takes_out xs) put ∙ rest.1,
    )

fit : (xs ys : List RowEdit) (t : Tables) → AreTaken xs → ArePutIn ys (with_edits xs t) → AreFit (xs ++ ys) t
fit [] ys t taken puts = (put-fit ys t puts).0
fit (x ∷ xs) ys t (takes, taken) puts =
    let rest = fit xs ys (with_edit x t) taken puts in
    let own = one x takes in
    record { new = (own.0, rest.new); takes_first = ((λ any. takes), rest.takes_first); balanced = (own.1, rest.balanced) }
  where
    one : (edit : RowEdit) → takes_out edit ≡ true → IsNew edit t × IsBalanced edit
    one (TakeSheetRow product machine place) is = (tt, tt)
    one (TakeMount reel) is = (tt, tt)
    one _ is = cc

taken-places : (xs : List RowEdit) (t : Tables) (n k : ℕ) → AreTaken xs → (with_edits xs t).placements n k ≡ t.placements n k
taken-places [] t n k taken = refl
taken-places (x ∷ xs) t n k (takes, taken) = taken-places xs (with_edit x t) n k taken ∙ one x takes
  where
    one : (edit : RowEdit) → takes_out edit ≡ true → (with_edit edit t).placements n k ≡ t.placements n k
    one (PutPlacement row) is = cc
    one _ is = refl

-- ---- reels

row-balanced : (H : History) (reel : Name) (row : ReelRow) → IsJudged Two H → reel_row H reel ≡ Some row → IsBalanced (PutReel row)
row-balanced H reel row judged = by (receipt_of H reel)
  where
    by : (said : Option Receipt) → option_map columns_of (option_map (view_of H reel) said) ≡ Some row → IsBalanced (PutReel row)
    by None is = cc
    by (Some receipt) is = subst (λ x. IsBalanced (PutReel x)) (ap (λ o. option_map_or (λ (x : ReelRow). x) o row) is) (balance H reel judged)

reel-in : (H : History) (reel : Name) (change : ReelRow → ReelRow) (t : Tables) → IsJudged Two H → ((row : ReelRow) → IsBalanced (PutReel row) → IsBalanced (PutReel (change row)))
    → ArePutIn (reel_edit change (reel_row H reel)) t
reel-in H reel change t judged keeps = by (reel_row H reel) refl
  where
    by : (row : Option ReelRow) → reel_row H reel ≡ row → ArePutIn (reel_edit change row) t
    by None is = tt
    by (Some row) is = ((refl, keeps row (row-balanced H reel row judged is), tt), tt)

count-in : (H : History) (counts : List CountRow) (t : Tables) → IsJudged Two H → ArePutIn (flat_map (count_edits H) counts) t
count-in H [] t judged = tt
count-in H (row ∷ rows) t judged =
    put-append (count_edits H row) (flat_map (count_edits H) rows) t (one row.quantity (reel_view H row.reel) refl) (count-in H rows (with_edits (count_edits H row) t) judged)
  where
    one : (n : ℕ) (view : Option ReelView) → reel_view H row.reel ≡ view → ArePutIn (counted_edits n view) t
    one n None is = tt
    one n (Some view) is = ((refl, counted, tt), found (nat_lt view.remaining n) refl)
      where
        counted : IsBalanced (PutReel (counted_row n (columns_of view)))
        counted =
            let before : view.received ≡ view.placed + view.scrapped + view.remaining = row-balanced H row.reel (columns_of view) judged (ap (option_map columns_of) is) in
            let after : view.received + (n - view.remaining) ≡ view.placed + (view.scrapped + (view.remaining - n)) + n = omega (arith, before) in
            after

        found : (b : Bool) → nat_lt view.remaining n ≡ b
            → ArePutIn (if b then PutFound view.reel (view.found + (n - view.remaining)) ∷ [] else []) (with_edit (PutReel (counted_row n (columns_of view))) t)
        found true more = ((refl, tt, (let above = ltb-true view.remaining n more in let some : 0 < view.found + (n - view.remaining) = omega (arith, above) in some)), tt)
        found false few = tt

took-balanced : (H : History) (e : Entry) (reel : Name) (row : ReelRow) → IsJudged Two (e ∷ H) → OnlyTakes reel e.stamped.command → receipt_by reel e.effective e.stamped.command ≡ None
    → picked_rows (reel_row H) (picks_of H e.stamped.command) reel ≡ Some row → IsBalanced (PutReel row)
took-balanced H e reel row judged only other is =
    row-balanced (e ∷ H) reel row judged (
    reel_row-next H e reel judged
    ∙ ap (λ o. option_or (option_map (fresh_row reel) o) (option_map (step_row e.effective (picks_of H e.stamped.command) reel e.stamped.command) (reel_row H reel))) other
    ∙ sym (reels-took H e.effective (picks_of H e.stamped.command) e.stamped.command reel only)
    ∙ ap (λ o. option_or o (reel_row H reel)) is)

-- ---- sheets

abbrev tables_with : History → (ℕ → ℕ → Option PlacementRow) → Tables
tables_with H placed = record (tables_of H) { placements = placed }

-- No row of the sheet is in this place or a later one.
abbrev IsFreeFrom : Name → Name → ℕ → Tables → Type 0
IsFreeFrom product machine n t = (k : ℕ) → n ≤ k → t.sheets product machine k ≡ None

sheet-in : (product machine : Name) (rows : List SheetRow) (n : ℕ) (t : Tables) → IsFreeFrom product machine n t → ArePutIn (put_rows product machine n rows) t
sheet-in product machine [] n t free = tt
sheet-in product machine (row ∷ rows) n t free = ((refl, tt, free n (omega arith)), sheet-in product machine rows (n + 1) (with_edit (PutSheetRow product machine n row) t) later)
  where
    apart : (b : Bool) (k : ℕ) → (n == k) ≡ false → (if (b && (n == k)) then Some row else t.sheets product machine k) ≡ t.sheets product machine k
    apart true k is = ap (λ c. if c then Some row else t.sheets product machine k) is
    apart false k is = refl

    later : IsFreeFrom product machine (n + 1) (with_edit (PutSheetRow product machine n row) t)
    later k le = apart (same product product && same machine machine) k (ne_eqb n k (λ is. omega (arith, is, le))) ∙ free k (omega (arith, le))

taken-out : (product machine : Name) (rows : List SheetRow) (n : ℕ) → AreTaken (taken_rows product machine n rows)
taken-out product machine [] n = tt
taken-out product machine (row ∷ rows) n = (refl, taken-out product machine rows (n + 1))

sheet-free : (H : History) (placed : ℕ → ℕ → Option PlacementRow) (product machine : Name)
    → IsFreeFrom product machine 1 (with_edits (taken_rows product machine 1 (unwrap_or (sheet_of H product machine) [])) (tables_with H placed))
sheet-free H placed product machine k le =
    ap (λ t. t.sheets product machine k) (rows-taken product machine (unwrap_or (sheet_of H product machine) []) 1 (tables_with H placed))
    ∙ ap (λ b. if (b && is_some (at_place 1 (unwrap_or (sheet_of H product machine) []) k)) then None else option_and_then (λ rows. at_place 1 rows k) (sheet_of H product machine)) here
    ∙ gone (sheet_of H product machine)
  where
    here : (same product product && same machine machine) ≡ true
    here = ap (λ b. b && same machine machine) (same-refl product) ∙ same-refl machine

    out : (o : Option SheetRow) → (if is_some o then None else o) ≡ None
    out None = refl
    out (Some x) = refl

    gone : (sheet : Option (List SheetRow)) → (if is_some (at_place 1 (unwrap_or sheet []) k) then None else option_and_then (λ rows. at_place 1 rows k) sheet) ≡ None
    gone None = refl
    gone (Some rows) = out (at_place 1 rows k)

-- ---- placements

places-in : (number : ℕ) (takes : List Take) (n : ℕ) (t : Tables) → ((k : ℕ) → n ≤ k → t.placements number k ≡ None) → ArePutIn (place_rows number n takes) t
places-in number [] n t free = tt
places-in number (take ∷ takes) n t free = by take.purpose (places-in number takes (n + 1))
  where
    by : (purpose : Purpose) → ((u : Tables) → ((k : ℕ) → n + 1 ≤ k → u.placements number k ≡ None) → ArePutIn (place_rows number (n + 1) takes) u)
        → ArePutIn (option_to_list (option_map (λ (r : PlacementRow). PutPlacement r) (placed_row number n (record take { purpose = purpose }))) ++ place_rows number (n + 1) takes) t
    by (Placed board designator machine slot) rest = ((refl, tt, free n (omega arith)), rest (with_edit (PutPlacement row) t) later)
      where
        row : PlacementRow
        row = record { number = number; place = n; board = board; designator = designator; machine = machine; slot = slot; reel = take.reel; overdue = take.overdue }

        apart : (b : Bool) (k : ℕ) → (n == k) ≡ false → (if (b && (n == k)) then Some row else t.placements number k) ≡ t.placements number k
        apart true k is = ap (λ c. if c then Some row else t.placements number k) is
        apart false k is = refl

        later : (k : ℕ) → n + 1 ≤ k → (with_edit (PutPlacement row) t).placements number k ≡ None
        later k le = apart (number == number) k (ne_eqb n k (λ is. omega (arith, is, le))) ∙ free k (omega (arith, le))
    by (Rejected machine slot) rest = rest t (λ k le. free k (omega (arith, le)))
    by Counted rest = rest t (λ k le. free k (omega (arith, le)))

-- ---- takes

spent-taken : (rows : List ReelRow) → AreTaken (flat_map take_spent rows)
spent-taken [] = tt
spent-taken (row ∷ rows) = by (row.remaining == 0) (spent-taken rows)
  where
    by : (b : Bool) → AreTaken (flat_map take_spent rows) → AreTaken ((if b then TakeMount row.reel ∷ [] else []) ++ flat_map take_spent rows)
    by true rest = (refl, rest)
    by false rest = rest

module _ (H : History) (number : ℕ) (takes : List Take) (balanced : (reel : Name) (row : ReelRow) → picked_rows (reel_row H) (map pick_of takes) reel ≡ Some row → IsBalanced (PutReel row)) where
  rows-in : (rows : List ReelRow) (t : Tables) → AllByRecursion (λ row. picked_rows (reel_row H) (map pick_of takes) row.reel ≡ Some row) rows → ArePutIn (map (λ row. PutReel row) rows) t
  rows-in [] t each = tt
  rows-in (row ∷ rows) t (is, each) = ((refl, balanced row.reel row is, tt), rows-in rows (with_edit (PutReel row) t) each)

  rows-places : (rows : List ReelRow) (t : Tables) (n k : ℕ) → (with_edits (map (λ row. PutReel row) rows) t).placements n k ≡ t.placements n k
  rows-places [] t n k = refl
  rows-places (row ∷ rows) t n k = rows-places rows (with_edit (PutReel row) t) n k

  take-fit : (edits : List RowEdit) (t : Tables) → ((k : ℕ) → t.placements number k ≡ None) → AreTakeEdits H number takes edits → AreFit edits t
  take-fit edits t free is =
      let spent : List RowEdit = flat_map take_spent is.rows in
      let put : List RowEdit = map (λ row. PutReel row) is.rows in
      subst (λ xs. AreFit xs t) (sym (is.are ∙ append_assoc spent put (place_rows number 1 takes))) (
      fit spent (put ++ place_rows number 1 takes) t (spent-taken is.rows) (
      put-append put (place_rows number 1 takes) (with_edits spent t) (rows-in is.rows (with_edits spent t) is.each) (
      places-in number takes 1 (with_edits put (with_edits spent t))
      (λ k le. rows-places is.rows (with_edits spent t) number k ∙ taken-places spent t number k (spent-taken is.rows) ∙ free k))))

-- ---- other commands

board-in : (board : Name) (machine product : Option Name) (t : Tables) → ArePutIn (board_edit board machine product) t
board-in board machine None t = tt
board-in board machine (Some p) t = ((refl, tt, tt), tt)

unload-taken : (reels : List Name) → AreTaken (map (λ reel. TakeMount reel) reels)
unload-taken [] = tt
unload-taken (r ∷ rs) = (refl, unload-taken rs)

-- ---- any command

module _ (H : History) (minute number : ℕ) (takes : List Take) (placed : ℕ → ℕ → Option PlacementRow) (judged : IsJudged Two H) (free : (k : ℕ) → placed number k ≡ None) where
  -- The gathered rows account for the pieces that the command takes.
  abbrev TakesBalance : Command → Type 0
  TakesBalance command = (reel : Name) (row : ReelRow) → OnlyTakes reel command → receipt_by reel minute command ≡ None
      → picked_rows (reel_row H) (map pick_of takes) reel ≡ Some row → IsBalanced (PutReel row)

  put-only : (edits given : List RowEdit) → edits ≡ given → ArePutIn given (tables_with H placed) → AreFit edits (tables_with H placed)
  put-only edits given are puts = subst (λ xs. AreFit xs (tables_with H placed)) (sym are) (put-fit given (tables_with H placed) puts).0

  mount-fit : (machine slot reel : Name) (edits : List RowEdit) → is_mounted H reel ≡ false
      → edits ≡ PutMount (record { since = number; machine = machine; slot = slot; reel = reel }) ∷ reel_edit (opened_row minute) (reel_row H reel) → AreFit edits (tables_with H placed)
  mount-fit machine slot reel edits rests are =
      put-only edits _ are ((refl, tt, ap (λ b. if b then last_put H reel else None) rests), reel-in H reel (opened_row minute) _ judged (λ row balanced. balanced))

  command-fit : (command : Command) (edits : List RowEdit) → command_refusal Two H minute command ≡ None → TakesBalance command
      → AreEditsOf H number minute takes command edits → AreFit edits (tables_with H placed)
  unfolding command_refusal
  command-fit (SheetDefined product machine rows) edits accepted balance_of are =
      subst (λ xs. AreFit xs (tables_with H placed)) (sym are) (
      fit (taken_rows product machine 1 (unwrap_or (sheet_of H product machine) [])) (put_rows product machine 1 rows) (tables_with H placed)
      (taken-out product machine (unwrap_or (sheet_of H product machine) []) 1)
      (sheet-in product machine rows 1 _ (sheet-free H placed product machine)))
  command-fit (MaterialsLoaded machine slot reel) edits accepted balance_of are = mount-fit machine slot reel edits (mountable H minute machine slot reel _ accepted).not_mounted are
  command-fit (MaterialsSpliced machine slot reel) edits accepted balance_of are = mount-fit machine slot reel edits (mountable H minute machine slot reel _ accepted).not_mounted are
  command-fit (MaterialsUnloaded machine slot) edits accepted balance_of are =
      subst (λ xs. AreFit xs (tables_with H placed)) (sym (are ∙ sym (append-nil _))) (fit (map (λ reel. TakeMount reel) (reels_on H machine slot)) [] _ (unload-taken (reels_on H machine slot)) tt)
  command-fit (MaterialsInstalled machine board ds) edits accepted balance_of are =
      take-fit H number takes (λ reel row. balance_of reel row (record { out = refl; baked = refl; told = refl; finds = λ left. refl }) refl) edits (tables_with H placed) free are
  command-fit (MaterialsScrapped machine slot n) edits accepted balance_of are =
      take-fit H number takes (λ reel row. balance_of reel row (record { out = refl; baked = refl; told = refl; finds = λ left. refl }) refl) edits (tables_with H placed) free are
  command-fit (CountsTaken counts) edits accepted balance_of are = put-only edits _ are (count-in H counts _ judged)
  command-fit (ReelReceived reel part lot moisture quantity) edits accepted balance_of are = put-only edits _ are ((refl, (let all : quantity ≡ 0 + 0 + quantity = omega arith in all), tt), tt)
  command-fit (ReelOpened reel) edits accepted balance_of are = put-only edits _ are (reel-in H reel (opened_row minute) _ judged (λ row balanced. balanced))
  command-fit (ReelSealed reel) edits accepted balance_of are = put-only edits _ are (reel-in H reel (sealed_row minute) _ judged (λ row balanced. balanced))
  command-fit (ReelBaked reel) edits accepted balance_of are = put-only edits _ are (reel-in H reel baked_row _ judged (λ row balanced. balanced))
  command-fit (WorkStarted machine board) edits accepted balance_of are = put-only edits _ are (board-in board (Some machine) (selected_on H machine) _)
  command-fit (WorkCompleted machine board) edits accepted balance_of are = put-only edits _ are (board-in board None (selected_on H machine) _)
  command-fit (PartDefined part) edits accepted balance_of are = put-only edits _ are ((refl, tt, tt), tt)
  command-fit (AlternateAllowed part alternate) edits accepted balance_of are = put-only edits _ are ((refl, tt, tt), tt)
  command-fit (ProductSelected machine product) edits accepted balance_of are = put-only edits _ are ((refl, tt, tt), tt)
  command-fit ClockSet edits accepted balance_of are = put-only edits _ are tt

-- The tables of a history accept the edits of the next entry's command, if no placed piece has the edits' number.
pub edits-fit : (H : History) (e : Entry) (number : ℕ) (placed : ℕ → ℕ → Option PlacementRow) (edits : List RowEdit) → IsJudged Two (e ∷ H) → ((k : ℕ) → placed number k ≡ None)
    → AreEditsOf H number e.effective (takes_by H e.effective e.stamped.command) e.stamped.command edits → AreFit edits (tables_with H placed)
edits-fit H e number placed edits (next, judged) free are =
    command-fit H e.effective number _ placed judged free e.stamped.command edits (next-accepted H e next)
    (λ reel row only other is.
    took-balanced H e reel row (next, judged) only other (sym (ap (λ ps. picked_rows (reel_row H) ps reel) (picks-again H e.effective (picks_of H e.stamped.command))) ∙ is))
    are

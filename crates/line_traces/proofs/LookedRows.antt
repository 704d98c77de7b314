-- The piece that a row of `placement` describes, with its reel's row and its entry's minute.
use Rattle.desk_types.proofs.Common.{[], ◌++◌, ◌+◌, ◌==◌, ◌∙◌, ◌∷◌, ◌≡◌, AllByRecursion, ap, arith, Bool, columns_of}
use Rattle.desk_types.proofs.Common.{eq-eqb, false, find, History, if◌then◌else◌, inl, inr, IsJudged, length}
use Rattle.desk_types.proofs.Common.{length-append, List, ne_eqb, None, Option, option_map, option_to_list}
use Rattle.desk_types.proofs.Common.{placement_row, placements_of, recursion_from_All, reel_row, refl, Some}
use Rattle.desk_types.proofs.Common.{subst, sym, true, view_of, ℕ}
use Rattle.desk_laws.proofs.Common.{Entry, IsRightlyPlaced, Placement, ReelRow, Two}
use Rattle.line_tables.proofs.Common.{Database, flag, Has, has_piece, placement_columns, rows_in}
use Rattle.desk_laws.proofs.InstalledPieces.{rightly-placed}
use Rattle.desk_types.specs.{Tables.placement_columns as columns_of_piece}
use Rattle.desk_types.specs.{declared.row.PlacementRow.PlacementRow}
use Rattle.line_tables.proofs.Keyed.{own_piece}
use Rattle.line_traces.proofs.{ByKey.has_key, PlacedColumns.receipt-there, TwoCalls.one-flag}
use Rattle.line_traces.specs.{Committed.HoldsList, Pieces.piece_at}
use Rattle.sqlite_rules.proofs.ListLemmas.{has_kept}
use Rattle.state_rows.specs.Lists.{minute_of}
use Rattle.line_tables.specs.Line as line

-- ---- the row of a piece

row-one : (p q : PlacementRow) → placement_columns p ≡ placement_columns q → p ≡ q
row-one p q is =
    let number : p.number ≡ q.number = cc in
    let place : p.place ≡ q.place = cc in
    let board : p.board ≡ q.board = cc in
    let designator : p.designator ≡ q.designator = cc in
    let machine : p.machine ≡ q.machine = cc in
    let slot : p.slot ≡ q.slot = cc in
    let reel : p.reel ≡ q.reel = cc in
    let late : flag p.overdue ≡ flag q.overdue = cc in
    let overdue = one-flag p.overdue q.overdue late in
    λ j. record {
      number = number j;
      place = place j;
      board = board j;
      designator = designator j;
      machine = machine j;
      slot = slot j;
      reel = reel j;
      overdue = overdue j;
    }

one-row : (o : Option PlacementRow) (p : PlacementRow) → Has (option_to_list (option_map placement_columns o)) (placement_columns p) → o ≡ Some p
one-row None p h = absurd h
one-row (Some q) p (inl same) = ap Some (sym (row-one p q same))
one-row (Some q) p (inr none) = absurd none

row-there : (db : Database) (H : History) → HoldsList db H → (p : PlacementRow) → Has (rows_in line.placement db) (placement_columns p) → placement_row H p.number p.place ≡ Some p
row-there db H held p here =
    one-row (placement_row H p.number p.place) p (
    subst (λ rows. Has rows (placement_columns p)) (held.state.placements.found (p.number, p.place)) (
    has_kept (has_piece (p.number, p.place)) (rows_in line.placement db) (placement_columns p) here (own_piece p)))

found-all : {A : Type 0} (P : A → Type 0) (test : A → Bool) (xs : List A) (x : A) → AllByRecursion P xs → find test xs ≡ Some x → P x
found-all P test [] x all is = cc
found-all {A} P test (y ∷ ys) x (first, all) is = by (test y) is (found-all P test ys x all)
  where
    by : (b : Bool) → (if b then Some y else find test ys) ≡ Some x → (find test ys ≡ Some x → P x) → P x
    by true there rest = let one : y ≡ x = cc in subst P one first
    by false there rest = rest there

-- ---- the minute of an entry

entry-number : (later : List Entry) (e : Entry) (before : History) → IsJudged Two (later ++ e ∷ before) → e.number ≡ length before + 1
entry-number [] e before (next, judged) = next.number
entry-number (x ∷ later) e before (next, judged) = entry-number later e before judged

entry-found : (later : List Entry) (e : Entry) (before : History) → IsJudged Two (later ++ e ∷ before) → find (λ (x : Entry). x.number == e.number) (later ++ e ∷ before) ≡ Some e
entry-found [] e before judged = rw (eq-eqb e.number e.number refl) refl
entry-found (x ∷ later) e before (next, judged) =
    let its = entry-number later e before judged in
    let at = next.number in
    let more = length-append later (e ∷ before) in
    let other : (x.number == e.number) ≡ false = ne_eqb x.number e.number (λ same. omega (arith, its, at, more, same)) in
    rw other (entry-found later e before judged)

minute-there : (H : History) → IsJudged Two H → (p : Placement) → (right : IsRightlyPlaced H p) → minute_of H p.number ≡ Some p.effective
minute-there H judged p right =
    subst (λ n. minute_of H n ≡ Some p.effective) right.number (
    subst (λ (l : History). option_map (λ (e : Entry). e.effective) (find (λ (e : Entry). e.number == right.entry.number) l) ≡ Some p.effective) (sym right.accepted.1) (
    ap (option_map (λ (e : Entry). e.effective)) (entry-found right.accepted.0 right.entry right.before (subst (IsJudged Two) right.accepted.1 judged)) ∙ ap Some right.effective))

-- ---- the piece

-- A row of the table, with its reel's part and lot and its entry's minute.
abbrev pub piece_with : PlacementRow → ReelRow → ℕ → Placement
piece_with row reel effective = record {
  number = row.number;
  place = row.place;
  board = row.board;
  designator = row.designator;
  part = reel.part;
  lot = reel.lot;
  reel = row.reel;
  machine = row.machine;
  slot = row.slot;
  effective = effective;
  overdue = row.overdue;
}

one-piece : (H : History) → IsJudged Two H → (p : Placement) → IsRightlyPlaced H p → (row : PlacementRow) → columns_of_piece p ≡ row → (reel : ReelRow) → Some reel ≡ reel_row H row.reel
    → (effective : ℕ) → Some effective ≡ minute_of H row.number → p ≡ piece_with row reel effective
one-piece H judged p right row is reel seen effective at =
    let view : reel_row H row.reel ≡ Some (columns_of (view_of H p.reel right.receipt)) =
    ap (λ (r : PlacementRow). reel_row H r.reel) (sym is) ∙ ap (λ o. option_map columns_of (option_map (view_of H p.reel) o)) (receipt-there H judged p right) in
    let its : reel ≡ columns_of (view_of H p.reel right.receipt) = cc in
    let minute : minute_of H row.number ≡ Some p.effective = ap (λ (r : PlacementRow). minute_of H r.number) (sym is) ∙ minute-there H judged p right in
    let when : p.effective ≡ effective = cc in
    let part : p.part ≡ reel.part = right.part ∙ ap (λ (r : ReelRow). r.part) (sym its) in
    let lot : p.lot ≡ reel.lot = right.lot ∙ ap (λ (r : ReelRow). r.lot) (sym its) in
    λ j. record {
      number = (is j).number;
      place = (is j).place;
      board = (is j).board;
      designator = (is j).designator;
      part = part j;
      lot = lot j;
      reel = (is j).reel;
      machine = (is j).machine;
      slot = (is j).slot;
      effective = when j;
      overdue = (is j).overdue;
    }

pub row-tells : (db : Database) (H : History) → HoldsList db H → (row : PlacementRow) → Has (rows_in line.placement db) (placement_columns row) → (reel : ReelRow) → Some reel ≡ reel_row H row.reel
    → (effective : ℕ) → Some effective ≡ minute_of H row.number → piece_at H (row.number, row.place) ≡ Some (piece_with row reel effective)
row-tells db H held row here reel seen effective at = by (find (has_key (row.number, row.place)) (placements_of H)) refl (row-there db H held row here)
  where
    by : (o : Option Placement) → find (has_key (row.number, row.place)) (placements_of H) ≡ o → option_map columns_of_piece (find (has_key (row.number, row.place)) (placements_of H)) ≡ Some row
        → piece_at H (row.number, row.place) ≡ Some (piece_with row reel effective)
    by None is there = let none = sym (ap (option_map columns_of_piece) is) ∙ there in cc
    by (Some p) is there =
        let columns : Some (columns_of_piece p) ≡ Some row = sym (ap (option_map columns_of_piece) is) ∙ there in
        let its : columns_of_piece p ≡ row = cc in
        let right = found-all (IsRightlyPlaced H) (has_key (row.number, row.place)) (placements_of H) p (recursion_from_All (IsRightlyPlaced H) (placements_of H) (rightly-placed H held.judged)) is in
        is ∙ ap Some (one-piece H held.judged p right row its reel seen effective at)

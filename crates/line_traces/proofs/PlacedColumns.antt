-- The database's rows for each placed piece: its reel's row, and its entry's minute.
use Rattle.desk_types.proofs.Common.{[], ◌++◌, ◌∙◌, ◌∷◌, ◌≡◌, AllByRecursion, ap, append_assoc, ap₂, arith}
use Rattle.desk_types.proofs.Common.{columns_of, filter, History, is_at, IsJudged, IsPermutation, IsPrefix}
use Rattle.desk_types.proofs.Common.{List, map, nat_cmp_total, nat_tests, option_map, option_to_list}
use Rattle.desk_types.proofs.Common.{ordering_then, placements_of, pos, receipt_of, recursion_from_All, refl}
use Rattle.desk_types.proofs.Common.{Some, subst, sym, tied_itself, true, view_of, ℕ}
use Rattle.desk_laws.proofs.Common.{Entry, IsRightlyPlaced, Placement, ReelRow, Two}
use Rattle.line_tables.proofs.Common.{accepted_in, all_weaker, column, Database, has_number, has_piece}
use Rattle.line_tables.proofs.Common.{has_text, Int, map-map, placement_columns, reel_columns, Row, rows_in}
use Rattle.desk_laws.{proofs.InstalledPieces.rightly-placed, proofs.ReelsLater.receipt-prefix}
use Rattle.desk_types.{specs.Tables.placement_columns as columns_of_piece}
use Rattle.desk_types.{specs.declared.row.PlacementRow.PlacementRow}
use Rattle.line_tables.proofs.Keyed.{one_piece}
use Rattle.line_traces.{proofs.RowsByKey.rows-listed, specs.Committed.HoldsList, specs.Committed.TellsMinute}
use Rattle.state_rows.{proofs.PlacedRows.entry_of, proofs.PlacedRows.piece_entries}
use Rattle.state_rows.{proofs.PlacedRows.pieces-ascend, proofs.PlacedRows.pieces-found, specs.Kept.by_piece}
use Rattle.std.proofs.Common.{Equal, Greater, is_eq, Less, nat_cmp, Ordering}
use Rattle.line_tables.specs.Line as line

-- ---- the rows of all pieces

abbrev pub piece_row : Placement → Row
piece_row p = placement_columns (columns_of_piece p)

pub itself : (k : ℕ × ℕ) → is_at (by_piece k) k ≡ true
itself k = rw (tied_itself nat_cmp_total k.0, tied_itself nat_cmp_total k.1) refl

one-number : (m n : ℕ) → nat_cmp m n ≡ Equal → m ≡ n
one-number m n is = grind (arith, nat_tests)

one-key : (k l : ℕ × ℕ) → is_at (by_piece k) l ≡ true → k ≡ l
one-key k l is = by (nat_cmp k.0 l.0) (nat_cmp k.1 l.1) refl refl is
  where
    by : (a b : Ordering) → nat_cmp k.0 l.0 ≡ a → nat_cmp k.1 l.1 ≡ b → is_eq (ordering_then a b) ≡ true → k ≡ l
    by Equal Equal number place here = ap₂ (λ m n. (m, n)) (one-number k.0 l.0 number) (one-number k.1 l.1 place)
    by Equal Less number place here = cc
    by Equal Greater number place here = cc
    by Less b number place here = cc
    by Greater b number place here = cc

pub pieces-listed : (db : Database) (H : History) → HoldsList db H → IsPermutation (rows_in line.placement db) (map piece_row (placements_of H))
pieces-listed db H held =
    subst (IsPermutation (rows_in line.placement db)) (map-map (λ (e : (ℕ × ℕ) × PlacementRow). placement_columns e.1) entry_of (placements_of H)) (
    rows-listed by_piece has_piece (λ _ row. placement_columns row) itself one-key one_piece (piece_entries H) (rows_in line.placement db) (pieces-ascend H held.judged)
    (λ key. held.state.placements.found key ∙ ap (λ o. option_to_list (option_map placement_columns o)) (sym (pieces-found H key)))
    held.state.placements.keyed)

-- ---- the reel and the entry of a piece

-- The row of its reel, and a row of its entry with its minute.
pub record IsKnown (db : Database) (p : Placement) : Type 0 where
  pub reel : ReelRow
  pub found : filter (has_text 0 p.reel) (rows_in line.reel db) ≡ reel_columns reel ∷ []
  pub part : reel.part ≡ p.part
  pub lot : reel.lot ≡ p.lot
  pub entry : Row
  pub only : filter (has_number p.number) (accepted_in db) ≡ entry ∷ []
  pub minute : column entry 4 ≡ Int (pos p.effective)

among : (P : Entry → Type 0) (later : List Entry) (e : Entry) (before : History) → AllByRecursion P (later ++ e ∷ before) → P e
among P [] e before all = all.0
among P (x ∷ later) e before all = among P later e before all.1

pub receipt-there : (H : History) → IsJudged Two H → (p : Placement) → (right : IsRightlyPlaced H p) → receipt_of H p.reel ≡ Some right.receipt
receipt-there H judged p right =
    let before : IsPrefix right.before H = (right.accepted.0 ++ right.entry ∷ [], right.accepted.1 ∙ sym (append_assoc right.accepted.0 (right.entry ∷ []) right.before)) in
    receipt-prefix right.before H p.reel before judged (rw right.received refl) ∙ right.received

known-one : (db : Database) (H : History) → HoldsList db H → (p : Placement) → IsRightlyPlaced H p → IsKnown db p
known-one db H held p right =
    let receipt = receipt-there H held.judged p right in
    let told = among (TellsMinute db) right.accepted.0 right.entry right.before (subst (AllByRecursion (TellsMinute db)) right.accepted.1 (recursion_from_All (TellsMinute db) H held.minutes)) in
    record {
      reel = columns_of (view_of H p.reel right.receipt);
      found = held.state.reels.found p.reel ∙ ap (λ o. option_to_list (option_map (λ (row : ReelRow). reel_columns row) (option_map columns_of (option_map (view_of H p.reel) o)))) receipt;
      part = sym right.part;
      lot = sym right.lot;
      entry = told.row;
      only = subst (λ n. filter (has_number n) (accepted_in db) ≡ told.row ∷ []) right.number told.only;
      minute = told.minute ∙ ap (λ n. Int (pos n)) right.effective;
    }

pub pieces-known : (db : Database) (H : History) → HoldsList db H → AllByRecursion (IsKnown db) (placements_of H)
pieces-known db H held =
    all_weaker (IsRightlyPlaced H) (IsKnown db) (known-one db H held) (placements_of H) (recursion_from_All (IsRightlyPlaced H) (placements_of H) (rightly-placed H held.judged))

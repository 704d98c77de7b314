-- The results of the queries for pieces.
use Rattle.desk_types.proofs.Common.{[], ◌&&◌, ◌∙◌, ◌∷◌, ◌≡◌, AllByRecursion, ap, arith, Bool, filter}
use Rattle.desk_types.proofs.Common.{flat_map, History, if◌then◌else◌, IsPermutation, IsPermutation-sym}
use Rattle.desk_types.proofs.Common.{IsPermutation-trans, IsStrictlySortedBy, keys_of, List, list_all, map}
use Rattle.desk_types.proofs.Common.{Name, nat_tests, ordering_then, overdue_of, placements_of, pos, refl}
use Rattle.desk_types.proofs.Common.{same, subst₂, sym, true, ℕ}
use Rattle.desk_laws.proofs.Common.{Placement, ReelRow}
use Rattle.line_tables.proofs.Common.{accepted_columns, accepted_in, all_weaker, Binary, column, columns}
use Rattle.line_tables.proofs.Common.{Database, equal, flat_map-map, Ghosts, has_text, Held, holds, Int}
use Rattle.line_tables.proofs.Common.{IsAnswer, IsAscending, map-map, Output, output, output_cmp}
use Rattle.line_tables.proofs.Common.{output_cmp_total, overlay, reel_columns, Row, rows_in, Selects, state}
use Rattle.line_tables.proofs.Common.{Term, Text, value_cmp, value_cmp-Int}
use Rattle.line_tables.proofs.FindTexts.{IsSelect}
use Rattle.line_tables.proofs.Finds.{and_true, answer_of}
use Rattle.line_traces.proofs.Columns.{equal-flag, equal-text}
use Rattle.line_traces.proofs.Joins.{found-of, join, join-by, join-one, joined, map-join}
use Rattle.line_traces.proofs.PlacedColumns.{IsKnown, piece_row, pieces-known, pieces-listed}
use Rattle.line_traces.proofs.Texts.{is_overdue, of_lot, on_board, pieces_query, select_of_lot}
use Rattle.line_traces.proofs.Texts.{select_of_lot_is, select_on, select_on_is, select_overdue}
use Rattle.line_traces.proofs.Texts.{select_overdue_is, select_placed, select_placed_is}
use Rattle.line_traces.specs.Committed.{FindsOfList, HoldsList, placed_columns}
use Rattle.line_traces.specs.Pieces.{pieces_of_lot, pieces_on, pieces_where}
use Rattle.sqlite_keyed.proofs.ListLemmas.{ascending-filter, ascending-map, ascending_weaker}
use Rattle.sqlite_keyed.proofs.SortLemmas.{sorted_unique}
use Rattle.sqlite_trees.proofs.ListLemmas.{IsPermutation-flat_map}
use Rattle.sqlite_value.proofs.OrderLemmas.{then-Equal}
use Rattle.state_rows.proofs.PlacedRows.{entry_of, pieces-ascend}
use Rattle.state_rows.specs.Kept.{by_piece}
use Rattle.std.proofs.Common.{Less, nat_cmp}
use Rattle.line_tables.specs.Line as line

-- ---- the shown values

abbrev pub is_reel : Row → Row → Bool
is_reel piece reel = equal Binary (column reel 0) (column piece 6)

abbrev is_entry : Row → Row → Bool
is_entry piece entry = equal Binary (column entry 0) (column piece 0)

-- The sort keys, and the shown columns.
abbrev shown_of_rows : Row → Row → Row → Output
shown_of_rows r p a = (
  column p 0 ∷ column p 1 ∷ [],
  column p 0 ∷ column p 1 ∷ column p 2 ∷ column p 3 ∷ column r 1 ∷ column r 2 ∷ column p 6 ∷ column p 4 ∷ column p 5 ∷ column a 4 ∷ column p 7 ∷ [],
)

abbrev shown_piece : Placement → Output
shown_piece p = (Int (pos p.number) ∷ Int (pos p.place) ∷ [], placed_columns p)

-- ---- order

int-nat : (m n : ℕ) → value_cmp (Int (pos m)) (Int (pos n)) ≡ nat_cmp m n
int-nat m n = value_cmp-Int (pos m) (pos n) ∙ grind (arith, nat_tests)

abbrev pub IsBefore : Placement → Placement → Type 0
IsBefore p q = by_piece (p.number, p.place) (q.number, q.place) ≡ Less

pub before-all : (p : Placement) (qs : List Placement) → AllByRecursion (λ key. by_piece (p.number, p.place) key ≡ Less) (keys_of (map entry_of qs)) → AllByRecursion (IsBefore p) qs
before-all p [] all = tt
before-all p (q ∷ qs) (first, all) = (first, before-all p qs all)

in-order : (ps : List Placement) → IsStrictlySortedBy by_piece (keys_of (map entry_of ps)) → IsAscending IsBefore ps
unfolding IsStrictlySortedBy
in-order [] sorted = tt
in-order (p ∷ ps) (above, sorted) = (before-all p ps above, in-order ps sorted)

module _ (tests : List Term) where
  shown-before : (p q : Placement) → IsBefore p q → output_cmp (pieces_query tests) (shown_piece p) (shown_piece q) ≡ Less
  shown-before p q is =
      ap (ordering_then (value_cmp (Int (pos p.number)) (Int (pos q.number)))) (then-Equal (value_cmp (Int (pos p.place)) (Int (pos q.place))))
      ∙ rw (int-nat p.number q.number, int-nat p.place q.place) is

  -- ---- the answer

  module _ (params : Row) (passes : Row → Row → Bool) (is : (r p a : Row) → list_all (holds (params ∷ r ∷ p ∷ a ∷ [])) tests ≡ passes (columns line.reel r) (columns line.placement p)) where
    shown-rows : (db : Database) (rows : List Row) (a : IsAnswer (pieces_query tests) (overlay db.trees []) params rows)
        → a.kept ≡ join is_reel is_entry passes shown_of_rows (rows_in line.reel db) (rows_in line.placement db) (accepted_in db)
    shown-rows db rows a =
        a.distinct ∙ ap (map (output (pieces_query tests))) a.grouped
        ∙ map-join is_reel is_entry passes shown_of_rows (output (pieces_query tests)) (λ r p e. list_all (holds (params ∷ r ∷ p ∷ e ∷ [])) (pieces_query tests).filter) (λ r p e. params ∷ r ∷ p ∷ e ∷ [])
        (columns line.reel) (columns line.placement) accepted_columns
        (λ r p e. ap (λ b. is_reel (columns line.placement p) (columns line.reel r) && (is_entry (columns line.placement p) (accepted_columns e) && b)) (is r p e))
        (λ r p e. refl) (db.trees 11) (db.trees 17) (db.trees 1)

    module _ (wanted : Placement → Bool) (same : (p : Placement) (r : ReelRow) → r.lot ≡ p.lot → passes (reel_columns r) (piece_row p) ≡ wanted p) where
      one-shown : (db : Database) (p : Placement) → IsKnown db p
          → flat_map (λ r. flat_map (joined is_reel is_entry passes shown_of_rows r (piece_row p)) (accepted_in db)) (rows_in line.reel db) ≡ (if wanted p then shown_piece p ∷ [] else [])
      one-shown db p known =
          join-one is_reel is_entry passes shown_of_rows (rows_in line.reel db) (piece_row p) (accepted_in db) (reel_columns known.reel) known.entry known.found known.only
          ∙ rw (same p known.reel known.lot, known.part, known.lot, known.minute) refl

      pub pieces-answer : (db : Database) (H : History) → HoldsList db H → (rows : List Row) → IsAnswer (pieces_query tests) (overlay db.trees []) params rows → rows ≡ map placed_columns (pieces_where wanted H)
      pieces-answer db H held rows a =
          let q = pieces_query tests in
          let ps = filter wanted (placements_of H) in
          let by_piece_row : Row → List Output = λ p. flat_map (λ r. flat_map (joined is_reel is_entry passes shown_of_rows r p) (accepted_in db)) (rows_in line.reel db) in
          let found : flat_map by_piece_row (map piece_row (placements_of H)) ≡ map shown_piece ps =
          flat_map-map by_piece_row piece_row (placements_of H) ∙ found-of (λ p. by_piece_row (piece_row p)) wanted shown_piece (placements_of H) (all_weaker (IsKnown db) _ (one-shown db) (placements_of H) (pieces-known db H held)) in
          let listed : IsPermutation a.kept (map shown_piece ps) =
          subst₂ IsPermutation (sym (shown-rows db rows a)) found (
          IsPermutation-trans _ _ _ (join-by is_reel is_entry passes shown_of_rows (rows_in line.reel db) (rows_in line.placement db) (accepted_in db))
          (IsPermutation-flat_map by_piece_row _ _ (pieces-listed db H held))) in
          let up : IsAscending (λ x y. output_cmp q x y ≡ Less) (map shown_piece ps) =
          ascending-map (λ x y. output_cmp q x y ≡ Less) shown_piece ps (ascending_weaker IsBefore _ shown-before ps (ascending-filter IsBefore wanted (placements_of H) (in-order (placements_of H) (pieces-ascend H held.judged)))) in
          let ordered : a.ordered ≡ map shown_piece ps =
          sorted_unique (output_cmp q) (output_cmp_total q) (map shown_piece ps) a.ordered up (IsPermutation-trans _ _ _ (IsPermutation-sym _ _ listed) a.same) a.sorted in
          a.shown ∙ ap (map (λ (o : Output). o.1)) ordered ∙ map-map (λ (o : Output). o.1) shown_piece ps

      pub finds-pieces : {S : Type 0} (g : Ghosts S) (sql : List ℕ) (names : List (List ℕ)) → IsSelect sql (pieces_query tests) names → (old : Held S) (rows : List Row) → Selects g sql params old rows
          → FindsOfList (λ H. map placed_columns (pieces_where wanted H)) (state g old) rows
      finds-pieces g sql names text old rows h = record {
        was_open = h.was_open;
        are = λ schema H held. pieces-answer (state g old).committed H held rows (answer_of g sql (pieces_query tests) names text params old rows h schema);
      }

-- ---- tests and all pieces

all-pass : (ps : List Placement) → filter (λ p. true) ps ≡ ps
all-pass [] = refl
all-pass (p ∷ ps) = ap (λ qs. p ∷ qs) (all-pass ps)

module _ {S : Type 0} (g : Ghosts S) (old : Held S) (rows : List Row) where
  pub finds-on : (board : Name) → Selects g select_on (Text board ∷ []) old rows → FindsOfList (λ H. map placed_columns (pieces_on H board)) (state g old) rows
  finds-on board =
      finds-pieces (on_board ∷ []) (Text board ∷ []) (λ r p. has_text 2 board p) (λ r p a. and_true _)
      (λ p. same p.board board) (λ p r its. equal-text p.board board) g select_on _ select_on_is old rows

  pub finds-of_lot : (lot : Name) → Selects g select_of_lot (Text lot ∷ []) old rows → FindsOfList (λ H. map placed_columns (pieces_of_lot H lot)) (state g old) rows
  finds-of_lot lot =
      finds-pieces (of_lot ∷ []) (Text lot ∷ []) (λ r p. has_text 2 lot r) (λ r p a. and_true _)
      (λ p. same p.lot lot) (λ p r its. equal-text r.lot lot ∙ ap (λ n. same n lot) its) g select_of_lot _
      select_of_lot_is old rows

  pub finds-overdue : Selects g select_overdue [] old rows → FindsOfList (λ H. map placed_columns (overdue_of H)) (state g old) rows
  finds-overdue = finds-pieces (is_overdue ∷ []) [] (λ r p. equal Binary (column p 7) (Int (pos 1)))
      (λ r p a. and_true _) (λ p. p.overdue) (λ p r its. equal-flag p.overdue) g select_overdue _ select_overdue_is
      old rows

  pub finds-placed : Selects g select_placed [] old rows
      → FindsOfList (λ H. map placed_columns (placements_of H)) (state g old) rows
  finds-placed shows =
      let all = finds-pieces [] [] (λ r p. true) (λ r p a. refl) (λ p. true) (λ p r its. refl) g select_placed _
      select_placed_is old rows shows in
      record {
        was_open = all.was_open;
        are = λ schema H held. all.are schema H held ∙ ap (map placed_columns) (all-pass (placements_of H));
      }

-- Placements that are looked up, and those that a query shows.
use Rattle.desk_types.proofs.Common.{[], ◌&&◌, ◌+◌, ◌<◌, ◌∙◌, ◌∷◌, ◌≡◌, ◌≤◌, ◌⊎◌, All-from_recursion}
use Rattle.desk_types.proofs.Common.{All-permutation, AllByRecursion, ap, ap₂, arith, Bool, codes, false}
use Rattle.desk_types.proofs.Common.{filter, get_or, if◌then◌else◌, inl, inr, IsPermutation, length}
use Rattle.desk_types.proofs.Common.{length-map, length_permutation, List, map, pos, recursion_from_All, refl}
use Rattle.desk_types.proofs.Common.{Some, subst, sym, true, true≢false, ℕ}
use Rattle.line_tables.proofs.Common.{Binary, col, column, columns, Compare, Database, everything, Ge, Ghosts}
use Rattle.line_tables.proofs.Common.{Has, has_piece, has_text, Held, Int, Lt, op2, overlay}
use Rattle.line_tables.proofs.Common.{placement_columns, Reads, Row, rows_in, Selects, state, Term}
use Rattle.line_tables.proofs.Common.{understood}
use Rattle.desk_types.specs.declared.row.PlacementRow.{PlacementRow}
use Rattle.line_replay.proofs.RowidRanges.{in_range, range_is, range_more}
use Rattle.line_replay.specs.{Alone.AreAlone, Audit.ArePlaced, Audit.piece_of, Placed.AreHere}
use Rattle.line_replay.specs.{Placed.has_placement, Placed.HasMoreBefore, Placed.is_from, Placed.IsRange}
use Rattle.line_tables.proofs.{Between.placement_places, Between.shown-in, FindTexts.IsSelect}
use Rattle.line_tables.proofs.{FindTexts.rows_from, Finds.answer_of, Finds.rows_answer, Finds.shown_is}
use Rattle.line_tables.proofs.{Finds.shown_of, Finds.whole, Keyed.own_text}
use Rattle.line_tables.specs.Line as line

-- ---- rows that a query shows are in its table

abbrev select_run : List ℕ
select_run = codes "SELECT number, place, board, designator, machine, slot, reel, overdue FROM placement WHERE rowid >= ?1 AND rowid < ?2"

abbrev run_test : List Term
run_test = op2 (Compare Ge Binary) (col 1 0) (col 0 0) ∷ op2 (Compare Lt Binary) (col 1 0) (col 0 1) ∷ []

run_is : IsSelect select_run (rows_from 17 run_test placement_places) (codes "number" ∷ codes "place" ∷ codes "board" ∷ codes "designator" ∷ codes "machine" ∷ codes "slot" ∷ codes "reel" ∷ codes "overdue" ∷ [])
unfolding understood everything
run_is rules indexed = inl (refl, refl, (refl, refl))

here_of : (db : Database) (ps : List PlacementRow) → AllByRecursion (Has (rows_in line.placement db)) (map placement_columns ps) → AreHere db ps
here_of db [] h = tt
here_of db (p ∷ ps) h = (h.0, here_of db ps h.1)

-- If the query shows just these rows, they are all that the range has.
pub run_range : {S : Type 0} (g : Ghosts S) (old : Held S) (first end : ℕ) (shown : List Row) (ps : List PlacementRow) → first ≤ end → Selects g select_run (Int (pos first) ∷ Int (pos end) ∷ []) old shown → shown ≡ map placement_columns ps
    → Reads (state g old) (λ db. IsRange db first end ps)
run_range g old first end shown ps low h same = record {
  was_open = h.was_open;
  are = λ schema.
      let q = rows_from 17 run_test placement_places in
      let params = Int (pos first) ∷ Int (pos end) ∷ [] in
      let db = (state g old).committed in
      let kept = db.trees 17 in
      let rows : IsPermutation (shown_of q params kept) shown = rows_answer 17 run_test placement_places (overlay db.trees []) params shown (answer_of g select_run q _ run_is params old shown h schema) in
      let inside = shown-in q params (columns line.placement) (λ r. refl) kept in
      let all = recursion_from_All (Has (rows_in line.placement db)) shown (All-permutation (Has (rows_in line.placement db)) _ shown rows (All-from_recursion _ _ inside)) in
      let passed = shown_is q params (λ r. r) (columns line.placement) (in_range first end) (λ r. range_is (column r 0) first end) (λ r. refl) kept in
      let many : length ps ≡ length (filter (in_range first end) kept) = sym (length-map ps placement_columns) ∙ ap length (sym same) ∙ length_permutation _ _ rows ∙ ap length passed ∙ length-map _ (columns line.placement) ∙ ap (λ (l : List Row). length (filter (in_range first end) l)) (whole kept) in
      record {
        here = here_of db ps (subst (AllByRecursion (Has (rows_in line.placement db))) same all);
        counted = range_more first end low kept ∙ ap (λ n. n + length (filter (is_from end) kept)) (sym many);
      };
}

-- ---- rows that are looked up

alone_in : (test : Row → Bool) (rows : List Row) (x : Row) → filter test rows ≡ x ∷ [] → Has rows x
alone_in test [] x h = absurd (let n = ap length h in omega (arith, n))
alone_in test (r ∷ rs) x h = go (test r) h (alone_in test rs x)
  where
    go : (b : Bool) → (if b then r ∷ filter test rs else filter test rs) ≡ x ∷ [] → (filter test rs ≡ x ∷ [] → Has rs x) → (x ≡ r) ⊎ Has rs x
    go true e more = inl (sym (ap (λ (l : List Row). get_or l 0 []) e))
    go false e more = inr (more e)

module _ (first second : Row → Bool) where
  abbrev tests : Row → Bool
  tests r = first r && second r

  none_too : (rows : List Row) → filter second rows ≡ [] → filter tests rows ≡ []
  none_too [] h = refl
  none_too (r ∷ rs) h = go (first r) (second r) h (none_too rs)
    where
      go : (a b : Bool) → (if b then r ∷ filter second rs else filter second rs) ≡ [] → (filter second rs ≡ [] → filter tests rs ≡ []) → (if a && b then r ∷ filter tests rs else filter tests rs) ≡ []
      go a true e more = absurd (let n = ap length e in omega (arith, n))
      go true false e more = more e
      go false false e more = more e

  alone_too : (rows : List Row) (x : Row) → first x ≡ true → filter second rows ≡ x ∷ [] → filter tests rows ≡ x ∷ []
  alone_too [] x passes h = absurd (let n = ap length h in omega (arith, n))
  alone_too (r ∷ rs) x passes h = go (first r) (second r) refl h (alone_too rs x passes)
    where
      go : (a b : Bool) → first r ≡ a → (if b then r ∷ filter second rs else filter second rs) ≡ x ∷ [] → (filter second rs ≡ x ∷ [] → filter tests rs ≡ x ∷ []) → (if a && b then r ∷ filter tests rs else filter tests rs) ≡ x ∷ []
      go true true is e more = ap₂ (λ (y : Row) (l : List Row). y ∷ l) (ap (λ (l : List Row). get_or l 0 []) e) (none_too rs (ap (Rattle.std.proofs.Common.drop 1) e))
      go false true is e more = absurd (true≢false (sym passes ∙ ap first (sym (ap (λ (l : List Row). get_or l 0 []) e)) ∙ is))
      go true false is e more = more e
      go false false is e more = more e

pub looked_alone : (p : PlacementRow) (rows : List Row) → filter (has_piece (p.number, p.place)) rows ≡ placement_columns p ∷ [] → filter (has_placement p) rows ≡ placement_columns p ∷ []
looked_alone p rows h =
    alone_too (has_text 2 p.board) (λ row. has_text 3 p.designator row && has_piece (p.number, p.place) row) rows (placement_columns p) (own_text p.board)
    (alone_too (has_text 3 p.designator) (has_piece (p.number, p.place)) rows (placement_columns p) (own_text p.designator) h)

pub looked_here : (db : Database) (p : PlacementRow) → filter (has_placement p) (rows_in line.placement db) ≡ placement_columns p ∷ [] → Has (rows_in line.placement db) (placement_columns p)
looked_here db p h = alone_in (has_placement p) (rows_in line.placement db) (placement_columns p) h

pub all_here : (db : Database) (ps : List PlacementRow) → AreHere db ps → ArePlaced db true (map piece_of ps)
all_here db ps h = record { here = λ _. by ps h; missing = λ e _. absurd (true≢false e) }
  where
    by : (ps : List PlacementRow) → AreHere db ps → AllByRecursion (λ e. Has (rows_in line.placement db) (placement_columns e.1)) (map piece_of ps)
    by [] h = tt
    by (p ∷ ps) h = (h.0, by ps h.1)

alone_at : (rows : List Row) (ps : List PlacementRow) (i : ℕ) (d : PlacementRow) → i < length ps → AreAlone has_piece (λ _ row. placement_columns row) rows (map piece_of ps)
    → filter (has_piece ((get_or ps i d).number, (get_or ps i d).place)) rows ≡ placement_columns (get_or ps i d) ∷ []
alone_at rows [] i d n h = absurd (omega (arith, n))
alone_at rows (p ∷ ps) Rattle.std.proofs.Common.zero d n h = h.0
alone_at rows (p ∷ ps) (Rattle.std.proofs.Common.suc i) d n h = alone_at rows ps i d (omega (arith, n)) h.1

pub one_missing : (db : Database) (ps : List PlacementRow) (i : ℕ) (d : PlacementRow) → i < length ps → (filter (has_placement (get_or ps i d)) (rows_in line.placement db) ≡ placement_columns (get_or ps i d) ∷ [] → ⊥) → ArePlaced db false (map piece_of ps)
one_missing db ps i d n other = record {
  here = λ e. absurd (true≢false (sym e));
  missing = λ _ alone. other (looked_alone (get_or ps i d) (rows_in line.placement db) (alone_at (rows_in line.placement db) ps i d n alone));
}

-- If so many rows come before the range, all of these come before its end.
pub more_before : (db : Database) (first end : ℕ) (ps : List PlacementRow) → IsRange db first end ps → HasMoreBefore (Some first) (Some end) (length ps) db
more_before db first end ps range count before = omega (arith, before, range.counted)

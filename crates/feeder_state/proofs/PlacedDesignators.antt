-- The designators that the rows of placed pieces name.
use Rattle.desk_types.proofs.Common.{[], ◌&&◌, ◌||◌, ◌∙◌, ◌∷◌, ◌≡◌, ap, Bool, both_ways, cond, false, History}
use Rattle.desk_types.proofs.Common.{is_at, is_placed_on, IsJudged, IsTotalOrder, List, list_any, map, Name}
use Rattle.desk_types.proofs.Common.{nat_cmp_total, None, on_total, Option, or_left, or_right, Ordering}
use Rattle.desk_types.proofs.Common.{placement_row, placements_of, refl, same, same_pair, Some, sym}
use Rattle.desk_types.proofs.Common.{then_total, true, ℕ}
use Rattle.desk_laws.proofs.Common.{Placement, Two}
use Rattle.desk_laws.proofs.Designators.{spot-placed, spots_of}
use Rattle.desk_types.specs.declared.row.PlacementRow.{PlacementRow}
use Rattle.feeder_state.proofs.FilledMaps.{AreOf, each-of}
use Rattle.state_rows.proofs.PlacedRows.{entry_of, piece_entries, pieces-listed}
use Rattle.state_rows.specs.Kept.{by_piece, Lists, row_at}

-- ---- lists of one table

found-any : {K X : Type 0} (cmp : K → K → Ordering) (test : X → Bool) (key : K) (x : X) (es : List (K × X)) → row_at cmp es key ≡ Some x → test x ≡ true → list_any (λ e. test e.1) es ≡ true
found-any {X = X} cmp test key x [] is passes = cc
found-any {X = X} cmp test key x (e ∷ es) is passes = by (is_at (cmp key) e.0) is (λ rest. found-any cmp test key x es rest passes)
  where
    by : (b : Bool) → cond b (Some e.1) (row_at cmp es key) ≡ Some x → (row_at cmp es key ≡ Some x → list_any (λ y. test y.1) es ≡ true) → (test e.1 || list_any (λ y. test y.1) es) ≡ true
    by true is rest = or_left (test e.1) _ (ap (passed e.1) is ∙ passes)
      where
        passed : X → Option X → Bool
        passed y None = test y
        passed y (Some z) = test z
    by false is rest = or_right (test e.1) _ (rest is)

any-other : {K X : Type 0} (cmp : K → K → Ordering) (test : X → Bool) (xs ys : List (K × X)) → AreOf (row_at cmp ys) xs → list_any (λ e. test e.1) xs ≡ true → list_any (λ e. test e.1) ys ≡ true
any-other cmp test [] ys each some = cc
any-other cmp test (x ∷ xs) ys (first, each) some = by (test x.1) refl some (any-other cmp test xs ys each)
  where
    by : (b : Bool) → test x.1 ≡ b → (b || list_any (λ e. test e.1) xs) ≡ true → (list_any (λ e. test e.1) xs ≡ true → list_any (λ e. test e.1) ys ≡ true) → list_any (λ e. test e.1) ys ≡ true
    by true passes some rest = found-any cmp test x.0 x.1 ys first passes
    by false fails some rest = rest some

weaker : {K X : Type 0} (f g : K → Option X) → ((k : K) → f k ≡ g k) → (es : List (K × X)) → AreOf f es → AreOf g es
weaker f g is [] each = tt
weaker f g is (e ∷ es) (first, each) = (sym (is e.0) ∙ first, weaker f g is es each)

pub any-same : {K X : Type 0} (cmp : K → K → Ordering) → IsTotalOrder cmp → (test : X → Bool) (table : K → Option X) (xs ys : List (K × X)) → Lists cmp xs table → Lists cmp ys table
    → list_any (λ e. test e.1) xs ≡ list_any (λ e. test e.1) ys
any-same cmp o test table xs ys of_xs of_ys =
    both_ways _ _ (any-other cmp test xs ys (weaker table (row_at cmp ys) (λ k. sym (of_ys.rows k)) xs (each-of cmp o xs table of_xs)))
    (any-other cmp test ys xs (weaker table (row_at cmp xs) (λ k. sym (of_xs.rows k)) ys (each-of cmp o ys table of_ys)))

-- ---- placed designators

abbrev pub is_of : Name → Name → PlacementRow → Bool
is_of board d row = same board row.board && same d row.designator

abbrev pub is_spot : Name → Name → List ((ℕ × ℕ) × PlacementRow) → Bool
is_spot board d entries = list_any (λ (e : (ℕ × ℕ) × PlacementRow). is_of board d e.1) entries

by_piece-total : IsTotalOrder by_piece
by_piece-total = then_total (on_total (λ (k : ℕ × ℕ). k.0) nat_cmp_total) (on_total (λ (k : ℕ × ℕ). k.1) nat_cmp_total)

spots-any : (board d : Name) (ps : List Placement) → is_spot board d (map entry_of ps) ≡ list_any (same_pair (board, d)) (spots_of ps)
spots-any board d [] = refl
spots-any board d (p ∷ ps) = ap (λ b. (same board p.board && same d p.designator) || b) (spots-any board d ps)

pub rows-placed : (H : History) (board d : Name) (es : List ((ℕ × ℕ) × PlacementRow)) → IsJudged Two H → Lists by_piece es (λ k. placement_row H k.0 k.1) → is_spot board d es ≡ is_placed_on H board d
rows-placed H board d es judged lists =
    any-same by_piece by_piece-total (is_of board d) (λ k. placement_row H k.0 k.1) es (piece_entries H) lists (pieces-listed H judged)
    ∙ spots-any board d (placements_of H)
    ∙ spot-placed H board d judged

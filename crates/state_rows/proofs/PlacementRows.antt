-- The rows of placed pieces after one entry more.
use Rattle.desk_types.proofs.Common.{[], ◌&&◌, ◌+◌, ◌<◌, ◌==◌, ◌∙◌, ◌∷◌, ◌≡◌, ap, arith, at_place, Bool, cond}
use Rattle.desk_types.proofs.Common.{entry_takes, EntryTake, enumerate_from, eqb-true, false, filter_map}
use Rattle.desk_types.proofs.Common.{filter_map-append, find, History, if◌then◌else◌, IsJudged, length, List}
use Rattle.desk_types.proofs.Common.{map, ne_eqb, None, Option, option_and_then, option_map, option_or}
use Rattle.desk_types.proofs.Common.{placement_of, placement_row, placements_of, refl, Some, takes_by}
use Rattle.desk_types.proofs.Common.{takes_of, true, ℕ}
use Rattle.desk_laws.proofs.Common.{Counted, Entry, Placed, Placement, Purpose, Rejected, Take, Two}
use Rattle.desk_types.specs.{Tables.placement_columns, declared.row.PlacementRow.PlacementRow}
use Rattle.state_rows.specs.After.{placed_row, placement_after}
use Rattle.std.proofs.lemmas.List.Folds.{find-append}

pub at_place-before : {X : Type 0} (xs : List X) (i place : ℕ) → place < i → at_place i xs place ≡ None
at_place-before [] i place lt = refl
at_place-before (x ∷ xs) i place lt =
    ap (λ b. if b then Some x else at_place (i + 1) xs place) (ne_eqb i place (λ is. omega (arith, is, lt))) ∙ at_place-before xs (i + 1) place (omega (arith, lt))

-- ---- one entry

module _ (number effective n k : ℕ) where
  abbrev as_take : ℕ × Take → EntryTake
  as_take (place, take) = record { number = number; place = place; effective = effective; take = take }

  abbrev is_at : Placement → Bool
  is_at p = p.number == n && p.place == k

  abbrev found : List (ℕ × Take) → Option PlacementRow
  found takes = option_map placement_columns (find is_at (filter_map placement_of (map as_take takes)))

  here : (i : ℕ) (take : Take) (rest : List (ℕ × Take)) → (number == n) ≡ true → (i == k) ≡ true → found rest ≡ None → found ((i, take) ∷ rest) ≡ placed_row n k take
  here i take rest is_n is_k none = by take.purpose
    where
      at_n : number ≡ n
      at_n = eqb-true number n is_n

      at_k : i ≡ k
      at_k = eqb-true i k is_k

      by : (purpose : Purpose) → found ((i, record take { purpose = purpose }) ∷ rest) ≡ placed_row n k (record take { purpose = purpose })
      by (Placed board designator machine slot) =
          ap (λ b. option_map placement_columns (cond b (Some row) (find is_at (filter_map placement_of (map as_take rest))))) both
          ∙ ap (λ (m : ℕ). Some (columns m i)) at_n ∙ ap (λ (p : ℕ). Some (columns n p)) at_k
        where
          columns : ℕ → ℕ → PlacementRow
          columns m p = record { number = m; place = p; board = board; designator = designator; machine = machine; slot = slot; reel = take.reel; overdue = take.overdue }

          row : Placement
          row = record { number = number; place = i; board = board; designator = designator; part = take.part; lot = take.lot; reel = take.reel; machine = machine; slot = slot; effective = effective; overdue = take.overdue }

          both : is_at row ≡ true
          both = ap (λ b. b && (i == k)) is_n ∙ is_k
      by (Rejected machine slot) = none
      by Counted = none

  other : (i : ℕ) (take : Take) (rest : List (ℕ × Take)) → ((number == n) && (i == k)) ≡ false → found ((i, take) ∷ rest) ≡ found rest
  other i take rest away = by take.purpose
    where
      by : (purpose : Purpose) → found ((i, record take { purpose = purpose }) ∷ rest) ≡ found rest
      by (Placed board designator machine slot) =
          ap (λ b. option_map placement_columns (cond b (Some row) (find is_at (filter_map placement_of (map as_take rest))))) away
        where
          row : Placement
          row = record { number = number; place = i; board = board; designator = designator; part = take.part; lot = take.lot; reel = take.reel; machine = machine; slot = slot; effective = effective; overdue = take.overdue }
      by (Rejected machine slot) = refl
      by Counted = refl

  none-found : (takes : List Take) (i : ℕ) → (number == n) ≡ false → found (enumerate_from i takes) ≡ None
  none-found [] i away = refl
  none-found (t ∷ takes) i away = other i t (enumerate_from (i + 1) takes) (ap (λ b. b && (i == k)) away) ∙ none-found takes (i + 1) away

  found-at : (takes : List Take) (i : ℕ) → (number == n) ≡ true → found (enumerate_from i takes) ≡ option_and_then (placed_row n k) (at_place i takes k)
  found-at [] i is = refl
  found-at (t ∷ takes) i is = by (i == k) refl (found-at takes (i + 1) is)
    where
      by : (b : Bool) → (i == k) ≡ b → found (enumerate_from (i + 1) takes) ≡ option_and_then (placed_row n k) (at_place (i + 1) takes k)
          → found (enumerate_from i (t ∷ takes)) ≡ option_and_then (placed_row n k) (if b then Some t else at_place (i + 1) takes k)
      by true at rest =
          here i t (enumerate_from (i + 1) takes) is at (
          rest ∙ ap (option_and_then (placed_row n k)) (at_place-before takes (i + 1) k (let one = eqb-true i k at in omega (arith, one))))
      by false at rest = other i t (enumerate_from (i + 1) takes) (ap (λ b. b && (i == k)) is ∙ at) ∙ rest

  entry-found : (takes : List Take) → found (enumerate_from 1 takes) ≡ if number == n then option_and_then (placed_row n k) (at_place 1 takes k) else None
  entry-found takes = by (number == n) refl
    where
      by : (b : Bool) → (number == n) ≡ b → found (enumerate_from 1 takes) ≡ if b then option_and_then (placed_row n k) (at_place 1 takes k) else None
      by true is = found-at takes 1 is
      by false is = none-found takes 1 is

-- ---- lists

map-or : {X Y : Type 0} (f : X → Y) (a b : Option X) → option_map f (option_or a b) ≡ option_or (option_map f a) (option_map f b)
map-or f None b = refl
map-or f (Some x) b = refl

placement-or : (H : History) (e : Entry) (n k : ℕ)
    → placement_row (e ∷ H) n k
    ≡ option_or (placement_row H n k) (if e.number == n then option_and_then (placed_row n k) (at_place 1 (takes_by H e.effective e.stamped.command) k) else None)
unfolding takes_of
placement-or H e n k =
    ap (λ ps. option_map placement_columns (find (is_at e.number e.effective n k) ps)) (filter_map-append placement_of (takes_of H) (entry_takes H e))
    ∙ ap (option_map placement_columns) (find-append (is_at e.number e.effective n k) (placements_of H) (filter_map placement_of (entry_takes H e)))
    ∙ map-or placement_columns (find (is_at e.number e.effective n k) (placements_of H)) _
    ∙ ap (option_or (placement_row H n k)) (entry-found e.number e.effective n k (takes_by H e.effective e.stamped.command))

pub unplaced-later : (H : History) (n k : ℕ) → IsJudged Two H → length H < n → placement_row H n k ≡ None
unfolding takes_of
unplaced-later [] n k judged later = refl
unplaced-later (e ∷ H) n k (next, judged) later =
    let at = next.number in
    let longer : length H + 1 < n = omega (arith, later) in
    placement-or H e n k
    ∙ ap (λ b. option_or (placement_row H n k) (if b then option_and_then (placed_row n k) (at_place 1 (takes_by H e.effective e.stamped.command) k) else None))
    (ne_eqb e.number n (λ is. omega (arith, is, at, longer)))
    ∙ ap (λ o. option_or o None) (unplaced-later H n k judged (omega (arith, longer)))

pub placement_row-next : (H : History) (e : Entry) (n k : ℕ) → IsJudged Two (e ∷ H)
    → placement_row (e ∷ H) n k ≡ placement_after e.number (takes_by H e.effective e.stamped.command) n k (placement_row H n k)
placement_row-next H e n k (next, judged) = placement-or H e n k ∙ by (e.number == n) refl
  where
    new : Option PlacementRow
    new = option_and_then (placed_row n k) (at_place 1 (takes_by H e.effective e.stamped.command) k)

    last : (o : Option PlacementRow) → option_or o None ≡ o
    last None = refl
    last (Some r) = refl

    by : (b : Bool) → (e.number == n) ≡ b → option_or (placement_row H n k) (if b then new else None) ≡ (if b then new else placement_row H n k)
    by true is =
        let one = eqb-true e.number n is in
        let at = next.number in
        ap (λ o. option_or o new) (unplaced-later H n k judged (omega (arith, one, at)))
    by false is = last (placement_row H n k)

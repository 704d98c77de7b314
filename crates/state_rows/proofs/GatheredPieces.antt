-- Pieces gathered reel by reel, and the edits that they come to.
use Rattle.desk_types.proofs.Common.{[], ◌&&◌, ◌++◌, ◌+◌, ◌<◌, ◌==◌, ◌^◌, ◌||◌, ◌∙◌, ◌∷◌, ◌≡◌, ◌≤◌, ap, arith}
use Rattle.desk_types.proofs.Common.{at_place, Bool, columns_of, eqb-true, false, filter, History}
use Rattle.desk_types.proofs.Common.{if◌then◌else◌, is_placed, List, list_any-append, Name, None, not, Option}
use Rattle.desk_types.proofs.Common.{option_and_then, option_map, option_map_or, option_or, option_to_list}
use Rattle.desk_types.proofs.Common.{or-false, pieces_picked, placed_of, receipt_of, reel_row, refl, same}
use Rattle.desk_types.proofs.Common.{same-refl, scrapped_of, Some, sym, Tables, true, view_of, with_edits}
use Rattle.desk_types.proofs.Common.{zero-add, ℕ}
use Rattle.desk_laws.proofs.Common.{Counted, Pick, Placed, Purpose, Receipt, ReelRow, Rejected, Take}
use Rattle.desk_laws.proofs.{Picks.pieces_picked-append, Totals.pieces_picked-filter}
use Rattle.desk_types.specs.{declared.edit.RowEdit.TheVariants.PutPlacement}
use Rattle.desk_types.specs.{declared.row.PlacementRow.PlacementRow}
use Rattle.state_rows.proofs.{EditLists.with_edits-append, PlacementRows.at_place-before, ReelRows.same-rows}
use Rattle.state_rows.proofs.{TablesLess.unpicked, TablesLess.unpicked-some}
use Rattle.state_rows.specs.{After.placed_in, After.placed_row, After.scrapped_in, EditsOf.AreNamed}
use Rattle.state_rows.specs.{EditsOf.ArePiecesFitting, EditsOf.is_picked, EditsOf.less_by, EditsOf.less_row}
use Rattle.state_rows.specs.{EditsOf.LessFits, EditsOf.picked_rows, EditsOf.place_rows}

-- ---- one pick

one : (test : Pick → Bool) (p : Pick) (reel : Name) → pieces_picked (filter test (p ∷ [])) reel ≡ (if test p then (if same p.reel reel then p.quantity else 0) else 0)
one test p reel = by (test p)
  where
    by : (b : Bool) → pieces_picked (if b then p ∷ [] else []) reel ≡ (if b then (if same p.reel reel then p.quantity else 0) else 0)
    by true = zero-add _
    by false = refl

flip-not : (b : Bool) (n : ℕ) → (if not b then n else 0) ≡ (if b then 0 else n)
flip-not true n = refl
flip-not false n = refl

zeros : (b : Bool) → (if◌then◌else◌ {A = ℕ} b 0 0) ≡ 0
zeros true = refl
zeros false = refl

more-placed : (ps : List Pick) (p : Pick) (reel : Name) (here : Bool) → same p.reel reel ≡ here
    → placed_in (ps ++ p ∷ []) reel ≡ placed_in ps reel + (if is_placed p.purpose then (if here then p.quantity else 0) else 0)
more-placed ps p reel here is =
    pieces_picked-filter (λ (x : Pick). is_placed x.purpose) ps (p ∷ []) reel
    ∙ ap (λ n. placed_in ps reel + n) (one (λ (x : Pick). is_placed x.purpose) p reel ∙ ap (λ b. if is_placed p.purpose then (if b then p.quantity else 0) else 0) is)

more-scrapped : (ps : List Pick) (p : Pick) (reel : Name) (here : Bool) → same p.reel reel ≡ here
    → scrapped_in (ps ++ p ∷ []) reel ≡ scrapped_in ps reel + (if is_placed p.purpose then 0 else (if here then p.quantity else 0))
more-scrapped ps p reel here is =
    pieces_picked-filter (λ (x : Pick). not (is_placed x.purpose)) ps (p ∷ []) reel
    ∙ ap (λ n. scrapped_in ps reel + n) (
    one (λ (x : Pick). not (is_placed x.purpose)) p reel
    ∙ ap (λ b. if not (is_placed p.purpose) then (if b then p.quantity else 0) else 0) is
    ∙ flip-not (is_placed p.purpose) _)

more-pieces_picked : (ps : List Pick) (p : Pick) (reel : Name) (here : Bool) → same p.reel reel ≡ here → pieces_picked (ps ++ p ∷ []) reel ≡ pieces_picked ps reel + (if here then p.quantity else 0)
more-pieces_picked ps p reel here is = pieces_picked-append ps (p ∷ []) reel ∙ ap (λ n. pieces_picked ps reel + n) (zero-add _ ∙ ap (λ b. if b then p.quantity else 0) is)

-- ---- rows

less-more : (ps : List Pick) (p : Pick) (row : ReelRow) → same p.reel row.reel ≡ true → less_by p (less_row ps row) ≡ less_row (ps ++ p ∷ []) row
less-more ps p row here =
    same-rows _ _ refl refl refl refl refl refl
    (let m = more-placed ps p row.reel true here in omega (arith, m))
    (let m = more-scrapped ps p row.reel true here in omega (arith, m))
    (let m = more-pieces_picked ps p row.reel true here in omega (arith, m)) refl refl refl

less-other : (ps : List Pick) (p : Pick) (row : ReelRow) → same p.reel row.reel ≡ false → less_row (ps ++ p ∷ []) row ≡ less_row ps row
less-other ps p row away =
    same-rows _ _ refl refl refl refl refl refl
    (let m = more-placed ps p row.reel false away in let z = zeros (is_placed p.purpose) in omega (arith, m, z))
    (let m = more-scrapped ps p row.reel false away in let z = zeros (is_placed p.purpose) in omega (arith, m, z))
    (let m = more-pieces_picked ps p row.reel false away in omega (arith, m)) refl refl refl

less-none : (ps : List Pick) (row : ReelRow) → is_picked ps row.reel ≡ false → less_row ps row ≡ row
less-none ps row none =
    same-rows _ _ refl refl refl refl refl refl
    (let z = unpicked _ row.reel (unpicked-some (λ (p : Pick). is_placed p.purpose) ps row.reel none) in omega (arith, z))
    (let z = unpicked _ row.reel (unpicked-some (λ (p : Pick). not (is_placed p.purpose)) ps row.reel none) in omega (arith, z))
    (let z = unpicked ps row.reel none in omega (arith, z)) refl refl refl

pieces_picked-more : (ps : List Pick) (p : Pick) (reel : Name) (here : Bool) → same p.reel reel ≡ here → is_picked (ps ++ p ∷ []) reel ≡ (is_picked ps reel || here)
pieces_picked-more ps p reel here is =
    list_any-append (λ (x : Pick). same x.reel reel) ps (p ∷ []) ∙ ap (λ b. is_picked ps reel || b) (or-false (same p.reel reel) ∙ is)

-- ---- gathered rows

pub rows-named : (H : History) → AreNamed (reel_row H)
rows-named H r row is = by (receipt_of H r) is
  where
    by : (said : Option Receipt) → option_map columns_of (option_map (view_of H r) said) ≡ Some row → row.reel ≡ r
    by None is = cc
    by (Some receipt) is = sym (ap (λ o. option_map_or (λ (x : ReelRow). x.reel) o []) is)

pub picked_rows-next : (rows : Name → Option ReelRow) (ps : List Pick) (p : Pick) (r : Name) → AreNamed rows
    → picked_rows rows (ps ++ p ∷ []) r ≡ (if same p.reel r then option_map (less_by p) (option_or (picked_rows rows ps r) (rows r)) else picked_rows rows ps r)
picked_rows-next rows ps p r named = by (same p.reel r) refl (is_picked ps r) refl (rows r) (named r)
  where
    by : (here : Bool) → same p.reel r ≡ here → (b : Bool) → is_picked ps r ≡ b → (o : Option ReelRow) → ((row : ReelRow) → o ≡ Some row → row.reel ≡ r)
        → (if is_picked (ps ++ p ∷ []) r then option_map (less_row (ps ++ p ∷ [])) o else None)
        ≡ (if here then option_map (less_by p) (option_or (if b then option_map (less_row ps) o else None) o) else (if b then option_map (less_row ps) o else None))
    by true here true before None of = ap (λ c. if◌then◌else◌ {A = Option ReelRow} c None None) (pieces_picked-more ps p r true here ∙ ap (λ c. c || true) before)
    by true here false before None of = ap (λ c. if◌then◌else◌ {A = Option ReelRow} c None None) (pieces_picked-more ps p r true here ∙ ap (λ c. c || true) before)
    by true here true before (Some row) of =
        ap (λ c. if c then Some (less_row (ps ++ p ∷ []) row) else None) (pieces_picked-more ps p r true here ∙ ap (λ c. c || true) before)
        ∙ ap Some (sym (less-more ps p row (ap (same p.reel) (of row refl) ∙ here)))
    by true here false before (Some row) of =
        ap (λ c. if c then Some (less_row (ps ++ p ∷ []) row) else None) (pieces_picked-more ps p r true here ∙ ap (λ c. c || true) before)
        ∙ ap Some (sym (less-more ps p row (ap (same p.reel) (of row refl) ∙ here)) ∙ ap (less_by p) (less-none ps row (ap (is_picked ps) (of row refl) ∙ before)))
    by false here true before None of = ap (λ c. if◌then◌else◌ {A = Option ReelRow} c None None) (pieces_picked-more ps p r false here ∙ ap (λ c. c || false) before)
    by false here false before None of = ap (λ c. if◌then◌else◌ {A = Option ReelRow} c None None) (pieces_picked-more ps p r false here ∙ ap (λ c. c || false) before)
    by false here true before (Some row) of =
        ap (λ c. if c then Some (less_row (ps ++ p ∷ []) row) else None) (pieces_picked-more ps p r false here ∙ ap (λ c. c || false) before)
        ∙ ap Some (less-other ps p row (ap (same p.reel) (of row refl) ∙ here))
    by false here false before (Some row) of =
        ap (λ c. if c then Some (less_row (ps ++ p ∷ []) row) else None) (pieces_picked-more ps p r false here ∙ ap (λ c. c || false) before)

pub picked_rows-fits : (H : History) (ps : List Pick) (p : Pick) (rest : List Pick) (row : ReelRow) → ArePiecesFitting H (ps ++ p ∷ rest)
    → option_or (picked_rows (reel_row H) ps p.reel) (reel_row H p.reel) ≡ Some row → LessFits p row
picked_rows-fits H ps p rest row fits is = by (is_picked ps p.reel) refl (receipt_of H p.reel) is
  where
    whole : placed_in (ps ++ p ∷ rest) p.reel ≡ placed_in ps p.reel + placed_in (p ∷ rest) p.reel
    whole = pieces_picked-filter (λ (x : Pick). is_placed x.purpose) ps (p ∷ rest) p.reel

    tail : placed_in (p ∷ rest) p.reel ≡ placed_in (p ∷ []) p.reel + placed_in rest p.reel
    tail = pieces_picked-filter (λ (x : Pick). is_placed x.purpose) (p ∷ []) rest p.reel

    this : placed_in (p ∷ []) p.reel ≡ (if is_placed p.purpose then p.quantity else 0)
    this = one (λ (x : Pick). is_placed x.purpose) p p.reel ∙ ap (λ b. if is_placed p.purpose then (if b then p.quantity else 0) else 0) (same-refl p.reel)

    whole' : scrapped_in (ps ++ p ∷ rest) p.reel ≡ scrapped_in ps p.reel + scrapped_in (p ∷ rest) p.reel
    whole' = pieces_picked-filter (λ (x : Pick). not (is_placed x.purpose)) ps (p ∷ rest) p.reel

    tail' : scrapped_in (p ∷ rest) p.reel ≡ scrapped_in (p ∷ []) p.reel + scrapped_in rest p.reel
    tail' = pieces_picked-filter (λ (x : Pick). not (is_placed x.purpose)) (p ∷ []) rest p.reel

    this' : scrapped_in (p ∷ []) p.reel ≡ (if is_placed p.purpose then 0 else p.quantity)
    this' =
        one (λ (x : Pick). not (is_placed x.purpose)) p p.reel
        ∙ ap (λ b. if not (is_placed p.purpose) then (if b then p.quantity else 0) else 0) (same-refl p.reel)
        ∙ flip-not (is_placed p.purpose) p.quantity

    sums : (placed scrapped : ℕ) → placed ≤ placed_of H p.reel + placed_in ps p.reel → scrapped ≤ scrapped_of H p.reel + scrapped_in ps p.reel
        → (placed + (if is_placed p.purpose then p.quantity else 0) < 2 ^ 64) × (scrapped + (if is_placed p.purpose then 0 else p.quantity) < 2 ^ 64)
    sums placed scrapped few few' =
        let a = (fits p.reel).0 in
        let b = (fits p.reel).1 in
        (omega (arith, whole, tail, this, few, a), omega (arith, whole', tail', this', few', b))

    by : (b : Bool) → is_picked ps p.reel ≡ b → (said : Option Receipt)
        → option_or (if b then option_map (less_row ps) (option_map columns_of (option_map (view_of H p.reel) said)) else None) (option_map columns_of (option_map (view_of H p.reel) said)) ≡ Some row
        → LessFits p row
    by true before None is = cc
    by false before None is = cc
    by true before (Some receipt) is =
        let a = ap (λ o. option_map_or (λ (x : ReelRow). x.placed) o 0) is in
        let b = ap (λ o. option_map_or (λ (x : ReelRow). x.scrapped) o 0) is in
        sums row.placed row.scrapped (omega (arith, a)) (omega (arith, b))
    by false before (Some receipt) is =
        let a = ap (λ o. option_map_or (λ (x : ReelRow). x.placed) o 0) is in
        let b = ap (λ o. option_map_or (λ (x : ReelRow). x.scrapped) o 0) is in
        sums row.placed row.scrapped (omega (arith, a)) (omega (arith, b))

-- ---- placements

pub places-put : (number : ℕ) (takes : List Take) (n : ℕ) (t : Tables)
    → with_edits (place_rows number n takes) t
    ≡ record t { placements = λ m k. option_or (if number == m then option_and_then (placed_row m k) (at_place n takes k) else None) (t.placements m k) }
places-put number [] n t = ap (λ (f : ℕ → ℕ → Option PlacementRow). record t { placements = f }) (λ j m k. none (number == m) (t.placements m k) j)
  where
    none : (b : Bool) (o : Option PlacementRow) → o ≡ option_or (if◌then◌else◌ {A = Option PlacementRow} b None None) o
    none true o = refl
    none false o = refl
places-put number (take ∷ takes) n t =
    with_edits-append (option_to_list (option_map (λ (r : PlacementRow). PutPlacement r) (placed_row number n take))) (place_rows number (n + 1) takes) t
    ∙ places-put number takes (n + 1) _
    ∙ by take.purpose
  where
    rest : ℕ → Option Take
    rest k = at_place (n + 1) takes k

    past : (k : ℕ) → (n == k) ≡ true → rest k ≡ None
    past k here = at_place-before takes (n + 1) k (let is = eqb-true n k here in omega (arith, is))

    skip : (m k : ℕ) (a b : Bool) (x : Take) (o : Option PlacementRow) → placed_row m k x ≡ None → (b ≡ true → rest k ≡ None)
        → option_or (if a then option_and_then (placed_row m k) (rest k) else None) o
        ≡ option_or (if a then option_and_then (placed_row m k) (if b then Some x else rest k) else None) o
    skip m k true true x o none past = ap (λ r. option_or (option_and_then (placed_row m k) r) o) (past refl) ∙ sym (ap (λ r. option_or r o) none)
    skip m k true false x o none past = refl
    skip m k false b x o none past = refl

    by : (purpose : Purpose)
        → record (with_edits (option_to_list (option_map (λ (r : PlacementRow). PutPlacement r) (placed_row number n (record take { purpose = purpose })))) t) {
          placements =
              λ m k. option_or (if number == m then option_and_then (placed_row m k) (rest k) else None)
              ((with_edits (option_to_list (option_map (λ (r : PlacementRow). PutPlacement r) (placed_row number n (record take { purpose = purpose })))) t).placements m k);
        }
        ≡ record t { placements = λ m k. option_or (if number == m then option_and_then (placed_row m k) (if n == k then Some (record take { purpose = purpose }) else rest k) else None) (t.placements m k) }
    by (Placed board designator machine slot) = ap (λ (f : ℕ → ℕ → Option PlacementRow). record t { placements = f }) (λ j m k. put m k (number == m) refl (n == k) refl j)
      where
        row : ℕ → ℕ → PlacementRow
        row m k = record { number = m; place = k; board = board; designator = designator; machine = machine; slot = slot; reel = take.reel; overdue = take.overdue }

        x : Take
        x = record take { purpose = Placed board designator machine slot }

        put : (m k : ℕ) (a : Bool) → (number == m) ≡ a → (b : Bool) → (n == k) ≡ b
            → option_or (if a then option_and_then (placed_row m k) (rest k) else None) (if (a && b) then Some (row number n) else t.placements m k)
            ≡ option_or (if a then option_and_then (placed_row m k) (if b then Some x else rest k) else None) (t.placements m k)
        put m k true is true here =
            ap (λ r. option_or (option_and_then (placed_row m k) r) (Some (row number n))) (past k here)
            ∙ ap (λ i. Some (row i n)) (eqb-true number m is) ∙ ap (λ i. Some (row m i)) (eqb-true n k here)
        put m k true is false here = refl
        put m k false is b here = refl
    by (Rejected machine slot) =
        ap (λ (f : ℕ → ℕ → Option PlacementRow). record t { placements = f }) (λ j m k. skip m k (number == m) (n == k) (record take { purpose = Rejected machine slot }) (t.placements m k) refl (past k) j)
    by Counted = ap (λ (f : ℕ → ℕ → Option PlacementRow). record t { placements = f }) (λ j m k. skip m k (number == m) (n == k) (record take { purpose = Counted }) (t.placements m k) refl (past k) j)

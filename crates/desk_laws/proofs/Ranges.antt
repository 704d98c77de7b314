-- The greatest number of pieces on a reel.
use Rattle.desk_types.proofs.Common.{[], ◌*◌, ◌+◌, ◌-◌, ◌∷◌, ◌≡◌, ◌≤◌, All, All-head, All-tail, ap, arith}
use Rattle.desk_types.proofs.Common.{Bool, cond, false, found_by, found_of, History, if◌then◌else◌, IsCommand}
use Rattle.desk_types.proofs.Common.{IsCountRow, IsJudged, left_of, length, List, Name, None, Option}
use Rattle.desk_types.proofs.Common.{option_map, option_map_or, option_or, picks_of, pieces_by, pieces_picked}
use Rattle.desk_types.proofs.Common.{receipt_by, receipt_of, received_of, refl, same, Some, true, unwrap_or}
use Rattle.desk_types.proofs.Common.{ℕ}
use Rattle.desk_laws.proofs.Common.{Command, CountRow, CountsTaken, GREATEST_QUANTITY, Receipt, ReelReceived}
use Rattle.desk_laws.proofs.Common.{Two}
use Rattle.std.specs.List.{find}

-- ---- one command

counted-range : (reel : Name) (rows : List CountRow) (row : CountRow) → All IsCountRow rows → find (λ (r : CountRow). same r.reel reel) rows ≡ Some row
    → row.quantity ≤ GREATEST_QUANTITY
counted-range reel [] row ranges is = cc
counted-range reel (r ∷ rows) row ranges is = by (same r.reel reel) is (counted-range reel rows row (All-tail IsCountRow r rows ranges))
  where
    by : (b : Bool) → cond b (Some r) (find (λ (x : CountRow). same x.reel reel) rows) ≡ Some row
        → (find (λ (x : CountRow). same x.reel reel) rows ≡ Some row → row.quantity ≤ GREATEST_QUANTITY) → row.quantity ≤ GREATEST_QUANTITY
    by true is rest =
        let it = ap (λ o. option_map_or (λ (x : CountRow). x.quantity) o 0) is in
        omega (arith, it, (All-head IsCountRow r rows ranges).quantity)
    by false is rest = rest is

pub told-range : (reel : Name) (command : Command) (pieces : ℕ) → IsCommand command → pieces_by reel command ≡ Some pieces → pieces ≤ GREATEST_QUANTITY
told-range reel (ReelReceived r part lot moisture quantity) pieces range is = by (same r reel) is
  where
    by : (b : Bool) → (if b then Some quantity else None) ≡ Some pieces → pieces ≤ GREATEST_QUANTITY
    by true is = let it = ap (λ o. unwrap_or o 0) is in omega (arith, it, range.4.1)
    by false is = cc
told-range reel (CountsTaken counts) pieces range is = by (find (λ (row : CountRow). same row.reel reel) counts) (counted-range reel counts) is
  where
    by : (found : Option CountRow) → ((row : CountRow) → All IsCountRow counts → found ≡ Some row → row.quantity ≤ GREATEST_QUANTITY)
        → option_map (λ (row : CountRow). row.quantity) found ≡ Some pieces → pieces ≤ GREATEST_QUANTITY
    by (Some row) few is = let it = ap (λ o. unwrap_or o 0) is in omega (arith, it, few row range.each refl)
    by None few is = cc
told-range reel _ pieces range is = cc

found_by-range : (left : ℕ) (reel : Name) (command : Command) → IsCommand command → found_by left reel command ≤ GREATEST_QUANTITY
found_by-range left reel (CountsTaken counts) range = by (find (λ (row : CountRow). same row.reel reel) counts) (counted-range reel counts)
  where
    by : (found : Option CountRow) → ((row : CountRow) → All IsCountRow counts → found ≡ Some row → row.quantity ≤ GREATEST_QUANTITY)
        → option_map_or (λ (row : CountRow). row.quantity - left) found 0 ≤ GREATEST_QUANTITY
    by (Some row) few = omega (arith, few row range.each refl)
    by None few = omega arith
found_by-range left reel _ range = omega arith

-- ---- histories

pub left-range : (H : History) (reel : Name) → IsJudged Two H → left_of H reel ≤ GREATEST_QUANTITY
unfolding left_of
left-range [] reel judged = omega arith
left-range (e ∷ H) reel (next, judged) = by (pieces_by reel e.stamped.command) refl (left-range H reel judged)
  where
    by : (told : Option ℕ) → pieces_by reel e.stamped.command ≡ told → left_of H reel ≤ GREATEST_QUANTITY
        → unwrap_or told (left_of H reel - pieces_picked (picks_of H e.stamped.command) reel) ≤ GREATEST_QUANTITY
    by (Some pieces) is before = told-range reel e.stamped.command pieces next.in_range.stamped.command is
    by None is before = omega (arith, before)

pub found-range : (H : History) (reel : Name) → IsJudged Two H → found_of H reel ≤ GREATEST_QUANTITY * length H
unfolding found_of
found-range [] reel judged = omega arith
found-range (e ∷ H) reel (next, judged) =
    let before = found-range H reel judged in
    let more = found_by-range (left_of H reel) reel e.stamped.command next.in_range.stamped.command in
    omega (arith, before, more)

receipt-range : (H : History) (reel : Name) → IsJudged Two H → option_map_or (λ (r : Receipt). r.quantity) (receipt_of H reel) 0 ≤ GREATEST_QUANTITY
receipt-range [] reel judged = omega arith
receipt-range (e ∷ H) reel (next, judged) = by (receipt_by reel e.effective e.stamped.command) refl (receipt-range H reel judged)
  where
    of : (command : Command) (minute : ℕ) (receipt : Receipt) → IsCommand command → receipt_by reel minute command ≡ Some receipt → receipt.quantity ≤ GREATEST_QUANTITY
    of (ReelReceived r part lot moisture quantity) minute receipt range is = here (same r reel) is
      where
        here : (b : Bool) → (if b then Some (record { part = part; lot = lot; moisture = moisture; quantity = quantity; effective = minute }) else None) ≡ Some receipt
            → receipt.quantity ≤ GREATEST_QUANTITY
        here true is = let it = ap (λ o. option_map_or (λ (r : Receipt). r.quantity) o 0) is in omega (arith, it, range.4.1)
        here false is = cc
    of _ minute receipt range is = cc

    by : (said : Option Receipt) → receipt_by reel e.effective e.stamped.command ≡ said → option_map_or (λ (r : Receipt). r.quantity) (receipt_of H reel) 0 ≤ GREATEST_QUANTITY
        → option_map_or (λ (r : Receipt). r.quantity) (option_or said (receipt_of H reel)) 0 ≤ GREATEST_QUANTITY
    by (Some receipt) is before = of e.stamped.command e.effective receipt next.in_range.stamped.command is
    by None is before = before

pub received-range : (H : History) (reel : Name) → IsJudged Two H → received_of H reel ≤ GREATEST_QUANTITY * length H + GREATEST_QUANTITY
received-range H reel judged = let first = receipt-range H reel judged in let more = found-range H reel judged in omega (arith, first, more)

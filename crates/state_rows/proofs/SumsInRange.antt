-- Sums of rows stay in their ranges.
use Rattle.desk_types.proofs.Common.{◌+◌, ◌-◌, ◌<◌, ◌^◌, ◌∷◌, ◌≡◌, ◌≤◌, arith, columns_of, effective_minute}
use Rattle.desk_types.proofs.Common.{entry_of, History, IsCountedQuantity, IsJudged, IsMinute, IsNext}
use Rattle.desk_types.proofs.Common.{IsStamped, length, Name, None, now_of, Option, option_map, option_map_or}
use Rattle.desk_types.proofs.Common.{out_since, picks_of, receipt_of, received_of, reel_row, reel_view, refl}
use Rattle.desk_types.proofs.Common.{refusal_of, Some, subst, sym, used_of, view_of, ℕ}
use Rattle.desk_laws.proofs.Common.{accepted-by-two, Entry, GREATEST_QUANTITY, MOST_ENTRIES, Receipt, ReelRow}
use Rattle.desk_laws.proofs.Common.{ReelView, Rules, Stamped, Two}
use Rattle.desk_laws.{proofs.Balance.balance, proofs.Exposures.exposure-within, proofs.Ranges.received-range}
use Rattle.desk_laws.{proofs.Totals.placed-next, proofs.Totals.scrapped-next}
use Rattle.desk_laws.proofs.Exposed.{used-then}
use Rattle.state_rows.specs.EditsOf.{ArePiecesFitting, CountFits}

-- ---- exposure

pub kept-fits : (H : History) (reel : Name) (minute : ℕ) (row : ReelRow) → IsJudged Two H → now_of H ≤ minute → reel_row H reel ≡ Some row
    → row.used + option_map_or (λ from. minute - from) row.open_since 0 ≤ minute
kept-fits H reel minute row judged le is = by (receipt_of H reel) is
  where
    whole : used_of H reel + option_map_or (λ from. minute - from) (out_since H reel) 0 ≤ minute
    whole = let all = used-then H reel minute (out_since H reel) judged refl le in let few = exposure-within H reel minute in omega (arith, all, few)

    by : (said : Option Receipt) → option_map columns_of (option_map (view_of H reel) said) ≡ Some row → row.used + option_map_or (λ from. minute - from) row.open_since 0 ≤ minute
    by None is = cc
    by (Some receipt) is = subst (λ o. option_map_or (λ (r : ReelRow). r.used + option_map_or (λ from. minute - from) r.open_since 0) o 0 ≤ minute) is whole

-- ---- pieces

-- All pieces of a reel, plus the most that a count may give, fit.
received-fits : (H : History) (reel : Name) → IsJudged Two H → length H ≤ MOST_ENTRIES → received_of H reel + GREATEST_QUANTITY < 2 ^ 64
received-fits H reel judged few = let range = received-range H reel judged in omega (arith, range, few)

pub pieces-fit : (H : History) (e : Entry) → IsJudged Two (e ∷ H) → length H + 1 ≤ MOST_ENTRIES → ArePiecesFitting H (picks_of H e.stamped.command)
pieces-fit H e judged few = λ r.
    let all = balance (e ∷ H) r judged in
    let fits = received-fits (e ∷ H) r judged (omega (arith, few)) in
    let placed = placed-next H e r in
    let scrapped = scrapped-next H e r in
    (omega (arith, all, fits, placed), omega (arith, all, fits, scrapped))

pub count-fits : (H : History) (reel : Name) (n : ℕ) (view : ReelView) → IsJudged Two H → length H ≤ MOST_ENTRIES → IsCountedQuantity n → reel_view H reel ≡ Some view
    → CountFits n view
count-fits H reel n view judged few range is = by (receipt_of H reel) is
  where
    all : received_of H reel + GREATEST_QUANTITY < 2 ^ 64
    all = received-fits H reel judged few

    by : (said : Option Receipt) → option_map (view_of H reel) said ≡ Some view → CountFits n view
    by None is = cc
    by (Some receipt) is =
        let parts = balance H reel judged in
        let one : view ≡ view_of H reel receipt = cc in
        subst (CountFits n) (sym one) (record {
          received = omega (arith, all, range);
          scrapped = omega (arith, all, parts, range);
          found = omega (arith, all, range);
        })

-- A command that is accepted, by either rules, makes the next entry.
pub entry-next : (rules : Rules) (H : History) (s : Stamped) → IsStamped s → IsMinute (effective_minute H s.minute) → refusal_of rules H s ≡ None → IsNext Two H (entry_of H s)
entry-next rules H s range minute accepted = record {
  in_range = record { stamped = range; effective = minute };
  number = refl;
  effective = refl;
  accepted = accepted-by-two rules H s accepted;
}

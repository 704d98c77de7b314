-- The greatest number of pieces in a history.
use Rattle.desk_types.proofs.Common.{◌+◌, ◌-◌, ◌^◌, ◌≡◌, ◌≤◌, arith, History, IsJudged, left_of, length, List}
use Rattle.desk_types.proofs.Common.{min, Name, placed_of, received_of, reverse, scrapped_of, ℕ}
use Rattle.desk_laws.proofs.Common.{Entry, MOST_ENTRIES, Two}
use Rattle.desk_laws.proofs.{Balance.balance, Ranges.received-range}
use Rattle.look_back.specs.Totals.{total_of}
use Rattle.reels.specs.{declared.reel.Usage.Usage, declared.reel.Usage.TheVariants.Placed}
use Rattle.reels.specs.{declared.reel.Usage.TheVariants.Scrapped}
use Rattle.std.proofs.lemmas.List.{length-reverse}

pub few-reversed : (entries : List Entry) → length entries ≤ MOST_ENTRIES → length (reverse entries) ≤ MOST_ENTRIES
few-reversed entries few = let same_length = length-reverse entries in omega (arith, same_length, few)

-- The greatest 64-bit number.
abbrev pub most : ℕ
most = 2 ^ 64 - 1

received-fits : (H : History) (reel : Name) → IsJudged Two H → length H ≤ MOST_ENTRIES → received_of H reel ≤ most
received-fits H reel judged few = let range = received-range H reel judged in omega (arith, range, few)

pub total-fits : (usage : Usage) (H : History) (reel : Name) → IsJudged Two H → length H ≤ MOST_ENTRIES → min (total_of usage H reel) most ≡ total_of usage H reel
total-fits Placed H reel judged few = let all = balance H reel judged in let fits = received-fits H reel judged few in omega (arith, all, fits)
total-fits Scrapped H reel judged few = let all = balance H reel judged in let fits = received-fits H reel judged few in omega (arith, all, fits)

pub summed : (entries : List Entry) (reel : Name) (placed scrapped : ℕ) → IsJudged Two (reverse entries) → length entries ≤ MOST_ENTRIES
    → (length (reverse entries) ≤ MOST_ENTRIES → placed ≡ placed_of (reverse entries) reel)
    → (length (reverse entries) ≤ MOST_ENTRIES → scrapped ≡ scrapped_of (reverse entries) reel)
    → (placed + scrapped + left_of (reverse entries) reel ≡ received_of (reverse entries) reel) × (received_of (reverse entries) reel ≤ most)
summed entries reel placed scrapped judged most_of placed_is scrapped_is =
    let few = few-reversed entries most_of in
    let all = balance (reverse entries) reel judged in
    (omega (arith, all, placed_is few, scrapped_is few), received-fits (reverse entries) reel judged few)

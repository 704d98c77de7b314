-- The row of a reel.
use Rattle.desk_types.proofs.Common.{◌-◌, ◌∙◌, ◌≡◌, ◌≤◌, ap, arith, columns_of, exposure_of, found_of, History}
use Rattle.desk_types.proofs.Common.{left_of, Name, None, now_of, Option, option_map, option_map_or, placed_of}
use Rattle.desk_types.proofs.Common.{receipt_of, received_of, reel_row, refl, scrapped_of, Some, sym}
use Rattle.desk_types.proofs.Common.{unwrap_or, used_of, view_of, ℕ}
use Rattle.desk_laws.proofs.Common.{Receipt}
use Rattle.reels.specs.{Reel.StandsFor, declared.reel.Reel.Reel}

used-is : (H : History) (name : Name) (found : Reel) → StandsFor H name found → found.last ≤ now_of H → found.row.used ≡ used_of H name
used-is H name found stands by_now = by found.row.open_since refl ∙ ap (λ since. exposure_of H name (unwrap_or since (now_of H))) stands.open_since
  where
    by : (since : Option ℕ) → found.row.open_since ≡ since → found.row.used ≡ exposure_of H name (unwrap_or since (now_of H))
    by (Some minute) is = stands.used ∙ ap (λ since. exposure_of H name (unwrap_or since found.last)) is
    by None is = let exposure = stands.exposure (now_of H) by_now in
        let none = ap (λ since. option_map_or (λ m. now_of H - m) since 0) is in
        omega (arith, exposure, none)

pub found-is : (H : History) (name : Name) (told : Receipt) (received : ℕ) → receipt_of H name ≡ Some told → received ≡ received_of H name
    → (told.quantity ≤ received) × (received - told.quantity ≡ found_of H name)
found-is H name told received is received_is =
    let first : option_map_or (λ (r : Receipt). r.quantity) (receipt_of H name) 0 ≡ told.quantity = ap (λ o. option_map_or (λ (r : Receipt). r.quantity) o 0) is in
    (omega (arith, received_is, first), omega (arith, received_is, first))

-- The row of a reel whose commands were replayed, with its pieces.
pub rowed : (H : History) (name : Name) (found : Reel) (received placed scrapped remaining : ℕ)
    → StandsFor H name found → found.last ≤ now_of H → received ≡ received_of H name
    → placed ≡ placed_of H name → scrapped ≡ scrapped_of H name → remaining ≡ left_of H name
    → Some (record found.row {
      reel = name;
      received = received;
      placed = placed;
      scrapped = scrapped;
      remaining = remaining;
    }) ≡ reel_row H name
rowed H name found received placed scrapped remaining stands by_now received_is placed_is scrapped_is remaining_is =
    (λ j. Some (record {
      reel = name;
      part = stands.receipt.part j;
      lot = stands.receipt.lot j;
      level = stands.receipt.level j;
      label = stands.receipt.label j;
      received = received_is j;
      placed = placed_is j;
      scrapped = scrapped_is j;
      remaining = remaining_is j;
      used = used-is H name found stands by_now j;
      open_since = stands.open_since j;
      baked = stands.baked j;
    }))
    ∙ sym (ap (λ o. option_map columns_of (option_map (view_of H name) o)) stands.receipt.is)

-- Mounted reels are out of their bags, so their exposure grows.
use Rattle.desk_types.proofs.Common.{[], ◌+◌, ◌-◌, ◌∙◌, ◌∷◌, ◌≡◌, ◌≤◌, and_parts, ap, arith, bake_by, Bool}
use Rattle.desk_types.proofs.Common.{command_refusal, exposure_of, exposure_starts, false, History}
use Rattle.desk_types.proofs.Common.{if◌then◌else◌, is_mounted, is_out_at, is_some, IsJudged, last_bake, Name}
use Rattle.desk_types.proofs.Common.{None, now_of, open_by, Option, option_map, option_or, out_since}
use Rattle.desk_types.proofs.Common.{receipt_by, receipt_of, refl, same, same-true, since_after, Some, sym}
use Rattle.desk_types.proofs.Common.{true, unwrap_or, ℕ}
use Rattle.desk_laws.proofs.Common.{Command, count-one, count-split, CountsTaken, is_out-untouched}
use Rattle.desk_laws.proofs.Common.{MaterialsInstalled, MaterialsLoaded, MaterialsScrapped, MaterialsSpliced}
use Rattle.desk_laws.proofs.Common.{MaterialsUnloaded, mounted_after, Receipt, ReelBaked, ReelOpened}
use Rattle.desk_laws.proofs.Common.{ReelReceived, ReelSealed, Two}
use Rattle.desk_laws.proofs.{Accepted.at-rest, Accepted.next-accepted, Judgements.AreBy}
use Rattle.desk_laws.proofs.{Judgements.by-desk_minute, Judgements.by-later, Mounted.mounted-next}
use Rattle.desk_types.proofs.Exposure.{is_out-after}

-- ---- out of its bag

opened : (since : Option ℕ) (minute : ℕ) → is_some (option_or since (Some minute)) ≡ true
opened None minute = refl
opened (Some earlier) minute = refl

resting : (H : History) (r reel : Name) → same r reel ≡ true → is_mounted H r ≡ false → is_mounted H reel ≡ true → true ≡ false
resting H r reel here rest mounted = sym mounted ∙ ap (is_mounted H) (sym (same-true r reel here)) ∙ rest

stays-out : (H : History) (minute : ℕ) (some : Bool) (live : Name → Name → Bool) (reel : Name) (command : Command) → command_refusal Two H minute command ≡ None
    → mounted_after some live reel command (is_mounted H reel) ≡ true → (is_mounted H reel ≡ true → is_some (out_since H reel) ≡ true)
    → is_some (since_after (open_by reel command) minute (out_since H reel)) ≡ true
unfolding command_refusal
stays-out H minute some live reel (ReelReceived r part lot moisture quantity) accepted mounted before = by (same r reel) mounted
  where
    by : (b : Bool) → (if b then false else is_mounted H reel) ≡ true → is_some (since_after (if b then Some false else None) minute (out_since H reel)) ≡ true
    by true is = cc
    by false is = before is
stays-out H minute some live reel (ReelOpened r) accepted mounted before = by (same r reel)
  where
    by : (b : Bool) → is_some (since_after (if b then Some true else None) minute (out_since H reel)) ≡ true
    by true = opened (out_since H reel) minute
    by false = before mounted
stays-out H minute some live reel (ReelSealed r) accepted mounted before = by (same r reel) refl
  where
    by : (b : Bool) → same r reel ≡ b → is_some (since_after (if b then Some false else None) minute (out_since H reel)) ≡ true
    by true here = let no = resting H r reel here (at-rest H r accepted).not_mounted mounted in cc
    by false here = before mounted
stays-out H minute some live reel (ReelBaked r) accepted mounted before = by (same r reel) refl
  where
    by : (b : Bool) → same r reel ≡ b → is_some (since_after (if b then Some false else None) minute (out_since H reel)) ≡ true
    by true here = let no = resting H r reel here (at-rest H r accepted).not_mounted mounted in cc
    by false here = before mounted
stays-out H minute some live reel (MaterialsLoaded m s r) accepted mounted before = by (same r reel) mounted
  where
    by : (b : Bool) → (if b then some else is_mounted H reel) ≡ true → is_some (since_after (if b then Some true else None) minute (out_since H reel)) ≡ true
    by true is = opened (out_since H reel) minute
    by false is = before is
stays-out H minute some live reel (MaterialsSpliced m s r) accepted mounted before = by (same r reel) mounted
  where
    by : (b : Bool) → (if b then some else is_mounted H reel) ≡ true → is_some (since_after (if b then Some true else None) minute (out_since H reel)) ≡ true
    by true is = opened (out_since H reel) minute
    by false is = before is
stays-out H minute some live reel (MaterialsUnloaded m s) accepted mounted before = before (and_parts _ _ mounted).0
stays-out H minute some live reel (MaterialsInstalled m board ds) accepted mounted before = before (and_parts _ _ mounted).0
stays-out H minute some live reel (MaterialsScrapped m s n) accepted mounted before = before (and_parts _ _ mounted).0
stays-out H minute some live reel (CountsTaken counts) accepted mounted before = before (and_parts _ _ mounted).0
stays-out H minute some live reel _ accepted mounted before = before mounted

pub mounted-out : (H : History) (reel : Name) → IsJudged Two H → is_mounted H reel ≡ true → is_some (out_since H reel) ≡ true
mounted-out [] reel judged mounted = cc
mounted-out (e ∷ H) reel (next, judged) mounted =
    stays-out H e.effective _ _ reel e.stamped.command (next-accepted H e next) (sym (mounted-next H e reel (next, judged)) ∙ mounted) (mounted-out H reel judged)

-- ---- exposure of a reel that is out

out-at : (H : History) (reel : Name) (minute : ℕ) → AreBy H minute → is_some (out_since H reel) ≡ true → is_out_at H reel minute ≡ true
out-at [] reel minute all out = cc
out-at (e ∷ H) reel minute (first, all) out = by (open_by reel e.stamped.command) refl out (out-at H reel minute all)
  where
    by : (said : Option Bool) → open_by reel e.stamped.command ≡ said → is_some (since_after said e.effective (out_since H reel)) ≡ true
        → (is_some (out_since H reel) ≡ true → is_out_at H reel minute ≡ true) → is_out_at (e ∷ H) reel minute ≡ true
    by (Some true) is out before = is_out-after H e reel true minute is first
    by (Some false) is out before = cc
    by None is out before = is_out-untouched H e reel minute is ∙ before out

bake-minute : (reel : Name) (minute : ℕ) (command : Command) (told : ℕ) → bake_by reel minute command ≡ Some told → told ≡ minute
bake-minute reel minute (ReelBaked r) told is = by (same r reel) is
  where
    by : (b : Bool) → (if b then Some minute else None) ≡ Some told → told ≡ minute
    by true is = cc
    by false is = cc
bake-minute reel minute _ told is = cc

receipt-minute : (reel : Name) (minute : ℕ) (command : Command) (receipt : Receipt) → receipt_by reel minute command ≡ Some receipt → receipt.effective ≡ minute
receipt-minute reel minute (ReelReceived r part lot moisture quantity) receipt is = by (same r reel) is
  where
    by : (b : Bool) → (if b then Some (record { part = part; lot = lot; moisture = moisture; quantity = quantity; effective = minute }) else None) ≡ Some receipt
        → receipt.effective ≡ minute
    by true is = cc
    by false is = cc
receipt-minute reel minute _ receipt is = cc

last_bake-by : (H : History) (reel : Name) (minute told : ℕ) → AreBy H minute → last_bake H reel ≡ Some told → told ≤ minute
last_bake-by [] reel minute told all is = cc
last_bake-by (e ∷ H) reel minute told (first, all) is = by (bake_by reel e.effective e.stamped.command) refl is (last_bake-by H reel minute told all)
  where
    by : (said : Option ℕ) → bake_by reel e.effective e.stamped.command ≡ said → option_or said (last_bake H reel) ≡ Some told
        → (last_bake H reel ≡ Some told → told ≤ minute) → told ≤ minute
    by (Some m) says is before = let same-one = bake-minute reel e.effective e.stamped.command m says in let told-is = ap (λ o. unwrap_or o 0) is in omega (arith, same-one, told-is, first)
    by None says is before = before is

receipt_of-by : (H : History) (reel : Name) (minute : ℕ) (receipt : Receipt) → AreBy H minute → receipt_of H reel ≡ Some receipt → receipt.effective ≤ minute
receipt_of-by [] reel minute receipt all is = cc
receipt_of-by (e ∷ H) reel minute receipt (first, all) is = by (receipt_by reel e.effective e.stamped.command) refl is (receipt_of-by H reel minute receipt all)
  where
    by : (said : Option Receipt) → receipt_by reel e.effective e.stamped.command ≡ said → option_or said (receipt_of H reel) ≡ Some receipt
        → (receipt_of H reel ≡ Some receipt → receipt.effective ≤ minute) → receipt.effective ≤ minute
    by (Some told) says is before =
        let same-one = receipt-minute reel e.effective e.stamped.command told says in
        let told-is = ap (λ o. unwrap_or (option_map (λ (r : Receipt). r.effective) o) 0) is in
        omega (arith, same-one, told-is, first)
    by None says is before = before is

pub starts-by : (H : History) (reel : Name) (minute : ℕ) → AreBy H minute → exposure_starts H reel ≤ minute
starts-by H reel minute all = by (last_bake H reel) refl
  where
    at : (receipt : Option Receipt) → receipt_of H reel ≡ receipt → unwrap_or (option_map (λ (r : Receipt). r.effective) receipt) 0 ≤ minute
    at (Some receipt) is = receipt_of-by H reel minute receipt all is
    at None is = omega arith

    by : (bake : Option ℕ) → last_bake H reel ≡ bake → unwrap_or (option_or bake (option_map (λ (r : Receipt). r.effective) (receipt_of H reel))) 0 ≤ minute
    by (Some told) is = last_bake-by H reel minute told all is
    by None is = at (receipt_of H reel) refl

out-goes-on : (H : History) (reel : Name) (now minute : ℕ) → AreBy H now → is_some (out_since H reel) ≡ true → now ≤ minute
    → exposure_of H reel minute ≡ exposure_of H reel now + (minute - now)
unfolding exposure_of
out-goes-on H reel now minute all out le =
    let parts = count-split (is_out_at H reel) (exposure_starts H reel) now minute (starts-by H reel now all) le in
    let rest = count-one (is_out_at H reel) true now minute (λ t low high. out-at H reel t (by-later H now t low all) out) in
    omega (arith, parts, rest)

pub mounted-goes-on : (H : History) (reel : Name) (minute : ℕ) → IsJudged Two H → is_mounted H reel ≡ true → now_of H ≤ minute
    → exposure_of H reel minute ≡ exposure_of H reel (now_of H) + (minute - now_of H)
mounted-goes-on H reel minute judged mounted le = out-goes-on H reel (now_of H) minute (by-desk_minute H) (mounted-out H reel judged mounted) le

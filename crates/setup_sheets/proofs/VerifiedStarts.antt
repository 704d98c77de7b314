-- Verification of a history's front reels finds why a start of work is refused.
use Rattle.desk_types.proofs.Common.{[], ◌+◌, ◌-◌, ◌||◌, ◌∙◌, ◌∷◌, ◌≡◌, ◌≤◌, ap, arith, Bool, exposure_of}
use Rattle.desk_types.proofs.Common.{false, floor_life, front_at, front_of, History, if◌then◌else◌}
use Rattle.desk_types.proofs.Common.{is_allowed, is_expired, is_some, is_unbaked, is_wrong_for, IsJudged}
use Rattle.desk_types.proofs.Common.{leb-false, leb-true, List, map, Name, nat_le, None, not, now_of, Option}
use Rattle.desk_types.proofs.Common.{option_map, option_map_or, option_or, receipt_of, refl, same}
use Rattle.desk_types.proofs.Common.{slots_of_rows, Some, true, ℕ}
use Rattle.desk_laws.proofs.Common.{Receipt, Refusal, SheetRow, Two}
use Rattle.desk_laws.proofs.Mounts.{front-mounted, front-received}
use Rattle.desk_laws.proofs.Openings.{mounted-goes-on}
use Rattle.desk_types.specs.Front.{front_reel, is_expired_life, is_unbaked_life, life_of}
use Rattle.desk_types.specs.Refusals.{feeding_refusal, front_refusal, slots_refusal}
use Rattle.desk_types.specs.declared.front.Life.TheVariants.{Unbaked, Unlimited, Until}
use Rattle.setup_sheets.specs.Alternates.{AreAlternates, is_allowed_by}
use Rattle.setup_sheets.specs.Verification.{first_fault, front_fault, slots_of_fronts}

-- ---- life

same-test : (a b c d : ℕ) → (a ≤ b → c ≤ d) → (c ≤ d → a ≤ b) → nat_le a b ≡ nat_le c d
same-test a b c d there back = by (nat_le a b) refl (nat_le c d) refl
  where
    by : (x : Bool) → nat_le a b ≡ x → (y : Bool) → nat_le c d ≡ y → x ≡ y
    by true first true second = refl
    by false first false second = refl
    by true first false second = let low = there (leb-true a b first) in let high = leb-false c d second in absurd (omega (arith, low, high))
    by false first true second = let low = back (leb-true c d second) in let high = leb-false a b first in absurd (omega (arith, low, high))

until-is : (now limit before after minute : ℕ) → now ≤ minute → after ≡ before + (minute - now)
    → nat_le (now + (limit - before)) minute ≡ nat_le limit after
until-is now limit before after minute le is =
    same-test (now + (limit - before)) minute limit after (λ ends. omega (arith, le, is, ends)) (λ reached. omega (arith, le, is, reached))

life-expired : (H : History) (reel : Name) (minute : ℕ) → now_of H ≤ minute → exposure_of H reel minute ≡ exposure_of H reel (now_of H) + (minute - now_of H)
    → is_unbaked H reel ≡ false → is_expired_life (life_of H (now_of H) reel) minute ≡ is_expired H reel minute
life-expired H reel minute le goes_on baked =
    ap (λ b. is_expired_life (if b then Unbaked else option_map_or (λ left. Until (now_of H + left)) (option_map (λ limit. limit - exposure_of H reel (now_of H)) (floor_life H reel)) Unlimited) minute) baked
    ∙ by (floor_life H reel)
  where
    by : (life : Option ℕ) → is_expired_life (option_map_or (λ left. Until (now_of H + left)) (option_map (λ limit. limit - exposure_of H reel (now_of H)) life) Unlimited) minute
        ≡ option_map_or (λ limit. nat_le limit (exposure_of H reel minute)) life false
    by None = refl
    by (Some limit) = until-is (now_of H) limit (exposure_of H reel (now_of H)) (exposure_of H reel minute) minute le goes_on

life-unbaked : (H : History) (now : ℕ) (reel : Name) → is_unbaked_life (life_of H now reel) ≡ is_unbaked H reel
life-unbaked H now reel = by (is_unbaked H reel) (floor_life H reel)
  where
    by : (b : Bool) (life : Option ℕ) → is_unbaked_life (if b then Unbaked else option_map_or (λ left. Until (now + left)) (option_map (λ limit. limit - exposure_of H reel now) life) Unlimited) ≡ b
    by true life = refl
    by false None = refl
    by false (Some limit) = refl

-- ---- parts

part-wrong : (H : History) (alternates : List (Name × Name)) (row : SheetRow) (reel : Name) → AreAlternates H alternates → is_some (receipt_of H reel) ≡ true
    → not (is_allowed_by alternates row.part (option_map_or (λ (r : Receipt). r.part) (receipt_of H reel) [])) ≡ is_wrong_for H row reel
part-wrong H alternates row reel are received = by (receipt_of H reel) received
  where
    by : (o : Option Receipt) → is_some o ≡ true
        → not (is_allowed_by alternates row.part (option_map_or (λ (r : Receipt). r.part) o [])) ≡ option_map_or (λ (r : Receipt). not (is_allowed H row.part r.part)) o false
    by None is = cc
    by (Some receipt) is = ap (λ b. not (same receipt.part row.part || b)) (are row.part receipt.part)

-- ---- slots

feeding-is : (slot : Name) (wrong unbaked expired told : Bool) → (unbaked ≡ false → told ≡ expired)
    → feeding_refusal slot wrong unbaked told ≡ feeding_refusal slot wrong unbaked expired
feeding-is slot true unbaked expired told is = refl
feeding-is slot false true expired told is = refl
feeding-is slot false false expired told is = ap (feeding_refusal slot false false) (is refl)

front-told : (H : History) (alternates : List (Name × Name)) (minute : ℕ) (machine : Name) (row : SheetRow) → IsJudged Two H → now_of H ≤ minute → AreAlternates H alternates
    → front_fault alternates minute row (option_map (front_reel H (now_of H)) (front_of H machine row.slot)) ≡ front_refusal H minute row (front_of H machine row.slot)
front-told H alternates minute machine row judged le are = by (front_of H machine row.slot) refl
  where
    by : (o : Option Name) → front_of H machine row.slot ≡ o → front_fault alternates minute row (option_map (front_reel H (now_of H)) o) ≡ front_refusal H minute row o
    by None is = refl
    by (Some reel) is =
        ap (λ wrong. feeding_refusal row.slot wrong (is_unbaked_life (life_of H (now_of H) reel)) (is_expired_life (life_of H (now_of H) reel) minute))
        (part-wrong H alternates row reel are (front-received H machine row.slot reel judged is))
        ∙ ap (λ unbaked. feeding_refusal row.slot (is_wrong_for H row reel) unbaked (is_expired_life (life_of H (now_of H) reel) minute)) (life-unbaked H (now_of H) reel)
        ∙ feeding-is row.slot (is_wrong_for H row reel) (is_unbaked H reel) (is_expired H reel minute) (is_expired_life (life_of H (now_of H) reel) minute)
        (life-expired H reel minute le (mounted-goes-on H reel minute judged (front-mounted H machine row.slot reel is) le))

abbrev pub refusal_in : Option (Name × Refusal) → Option Refusal
refusal_in fault = option_map (λ (f : Name × Refusal). f.1) fault

first-of : (slot : Name) (here : Option Refusal) (later : Option (Name × Refusal)) → refusal_in (option_or (option_map (λ refusal. (slot, refusal)) here) later) ≡ option_or here (refusal_in later)
first-of slot None later = refl
first-of slot (Some refusal) later = refl

pub first-told : (H : History) (alternates : List (Name × Name)) (minute : ℕ) (machine : Name) (rows : List SheetRow) → IsJudged Two H → now_of H ≤ minute → AreAlternates H alternates
    → refusal_in (first_fault alternates minute rows (map (front_at H (now_of H) machine) rows)) ≡ slots_refusal H minute machine rows
first-told H alternates minute machine [] judged le are = refl
first-told H alternates minute machine (row ∷ rows) judged le are =
    first-of row.slot _ (first_fault alternates minute rows (map (front_at H (now_of H) machine) rows))
    ∙ ap (λ here. option_or here (refusal_in (first_fault alternates minute rows (map (front_at H (now_of H) machine) rows)))) (front-told H alternates minute machine row judged le are)
    ∙ ap (option_or (front_refusal H minute row (front_of H machine row.slot))) (first-told H alternates minute machine rows judged le are)

pub fronts-slots : (H : History) (minute : ℕ) (machine : Name) (rows : List SheetRow) → slots_of_fronts (map (front_at H minute machine) rows) ≡ slots_of_rows rows
fronts-slots H minute machine [] = refl
fronts-slots H minute machine (row ∷ rows) = ap (λ slots. row.slot ∷ slots) (fronts-slots H minute machine rows)

-- The minutes left of a reel from the desk minute on.
use Rattle.desk_types.proofs.Common.{◌+◌, ◌-◌, ◌≡◌, ◌≤◌, ap, arith, Bool, exposure_of, false, floor_life}
use Rattle.desk_types.proofs.Common.{History, if◌then◌else◌, is_some, IsJudged, minutes_left, Name, None}
use Rattle.desk_types.proofs.Common.{now_of, Option, option_map, option_map_or, out_since, refl, Some, true}
use Rattle.desk_types.proofs.Common.{unwrap_or, ℕ}
use Rattle.desk_laws.proofs.Common.{Minutes, Two, Unbaked, Unlimited}
use Rattle.desk_laws.proofs.Judgements.{by-desk_minute}
use Rattle.desk_laws.proofs.Exposed.{since-by, used-then}

-- Exposure grows minute by minute while the reel is out, and stays while it is in its bag.
later : (H : History) (reel : Name) (minute : ℕ) (since : Option ℕ) → IsJudged Two H → out_since H reel ≡ since → now_of H ≤ minute
    → exposure_of H reel minute ≡ exposure_of H reel (now_of H) + (if is_some since then minute - now_of H else 0)
later H reel minute None judged in_bag le = used-then H reel minute None judged in_bag le
later H reel minute (Some from) judged out le =
    let early = since-by H reel from (now_of H) (by-desk_minute H) out in
    let at_minute = used-then H reel minute (Some from) judged out le in
    let at_now = used-then H reel (now_of H) (Some from) judged out (omega arith) in
    omega (arith, early, le, at_minute, at_now)

grown : (l l' : Option ℕ) (b b' : Bool) (e e' x x' d : ℕ) → l ≡ l' → b ≡ b' → x ≡ e + (if b then d else 0) → x' ≡ e' + (if b' then d else 0)
    → option_map (λ n. n - e) l ≡ option_map (λ n. n - e') l' → option_map (λ n. n - x) l ≡ option_map (λ n. n - x') l'
grown None None b b' e e' x x' d lives bags is is' left = refl
grown None (Some n) b b' e e' x x' d lives bags is is' left = cc
grown (Some n) None b b' e e' x x' d lives bags is is' left = cc
grown (Some n) (Some m) true false e e' x x' d lives bags is is' left = cc
grown (Some n) (Some m) false true e e' x x' d lives bags is is' left = cc
grown (Some n) (Some m) true true e e' x x' d lives bags is is' left =
    let same = ap (λ o. unwrap_or o 0) lives in
    let now = ap (λ o. unwrap_or o 0) left in
    ap (λ k. Some k) (omega (arith, same, now, is, is'))
grown (Some n) (Some m) false false e e' x x' d lives bags is is' left =
    let same = ap (λ o. unwrap_or o 0) lives in
    let now = ap (λ o. unwrap_or o 0) left in
    ap (λ k. Some k) (omega (arith, same, now, is, is'))

-- Reels with as many minutes left at the desk minute have as many at every later minute, if both are out of their bags or neither is.
pub minutes-same : (H H' : History) (reel : Name) (minute : ℕ) → IsJudged Two H → IsJudged Two H' → now_of H ≡ now_of H' → floor_life H reel ≡ floor_life H' reel
    → is_some (out_since H reel) ≡ is_some (out_since H' reel) → minutes_left H reel (now_of H) ≡ minutes_left H' reel (now_of H') → now_of H ≤ minute
    → minutes_left H reel minute ≡ minutes_left H' reel minute
minutes-same H H' reel minute judged judged' now lives bags left le =
    grown (floor_life H reel) (floor_life H' reel) (is_some (out_since H reel)) (is_some (out_since H' reel)) (exposure_of H reel (now_of H)) (exposure_of H' reel (now_of H'))
    (exposure_of H reel minute) (exposure_of H' reel minute) (minute - now_of H) lives bags (later H reel minute (out_since H reel) judged refl le) new left
  where
    new : exposure_of H' reel minute ≡ exposure_of H' reel (now_of H') + (if is_some (out_since H' reel) then minute - now_of H else 0)
    new = let at = later H' reel minute (out_since H' reel) judged' refl (omega (arith, now, le)) in by (is_some (out_since H' reel)) at
      where
        by : (b : Bool) → exposure_of H' reel minute ≡ exposure_of H' reel (now_of H') + (if b then minute - now_of H' else 0)
            → exposure_of H' reel minute ≡ exposure_of H' reel (now_of H') + (if b then minute - now_of H else 0)
        by true at = omega (arith, now, at)
        by false at = at

-- What the remaining life of a reel says.
pub life-parts : (b b' : Bool) (m m' : Option ℕ) → (if b then Unbaked else option_map_or Minutes m Unlimited) ≡ (if b' then Unbaked else option_map_or Minutes m' Unlimited)
    → (b ≡ b') × (b ≡ false → m ≡ m')
life-parts true true m m' is = (refl, λ baked. cc)
life-parts true false m None is = cc
life-parts true false m (Some n) is = cc
life-parts false true None m' is = cc
life-parts false true (Some n) m' is = cc
life-parts false false None None is = (refl, λ _. refl)
life-parts false false None (Some n) is = cc
life-parts false false (Some n) None is = cc
life-parts false false (Some n) (Some k) is = (refl, λ _. cc)

-- Tapes of accepted histories.
use Rattle.desk_types.proofs.Common.{[], ◌&&◌, ◌++◌, ◌==◌, ◌∙◌, ◌∷◌, ◌≡◌, ap, arith, Bool, command_refusal}
use Rattle.desk_types.proofs.Common.{false, History, if◌then◌else◌, is_mounted, IsDistinct, IsJudged, left_of}
use Rattle.desk_types.proofs.Common.{List, live_on, ltb-false, Name, nat_lt, None, refl, same, same-sym}
use Rattle.desk_types.proofs.Common.{tape_after, tape_of, tape_with, true, ℕ}
use Rattle.desk_laws.proofs.Common.{Command, MaterialsLoaded, MaterialsSpliced, MaterialsUnloaded, Two}
use Rattle.desk_laws.proofs.{Accepted.mountable, Accepted.next-accepted, Distinct.distinct-filter}
use Rattle.desk_laws.proofs.{Distinct.distinct-join, Mounts.has, Mounts.has-live_on, Mounts.live-mounted}

pub not-zero : (n : ℕ) → (n == 0) ≡ false → nat_lt 0 n ≡ true
not-zero n some = by (nat_lt 0 n) refl
  where
    by : (b : Bool) → nat_lt 0 n ≡ b → nat_lt 0 n ≡ true
    by true is = is
    by false is = let few = ltb-false 0 n is in let none : n ≡ 0 = omega (arith, few) in cc

-- A reel with pieces left that isn't mounted is on no tape. Holds for any history.
pub unmounted-nowhere : (H : History) (machine slot reel : Name) → is_mounted H reel ≡ false → nat_lt 0 (left_of H reel) ≡ true → has (tape_of H machine slot) reel ≡ false
unmounted-nowhere H machine slot reel rests some = by (has (tape_of H machine slot) reel) refl
  where
    by : (b : Bool) → has (tape_of H machine slot) reel ≡ b → has (tape_of H machine slot) reel ≡ false
    by false off = off
    by true on = let mounted = live-mounted H machine slot reel (has-live_on H machine slot reel ∙ ap (λ b. b && has (tape_of H machine slot) reel) some ∙ on) in cc

pub one-more : (names : List Name) (name : Name) → IsDistinct same names → has names name ≡ false → IsDistinct same (names ++ name ∷ [])
unfolding IsDistinct
one-more names name distinct away = distinct-join same same-sym names (name ∷ []) distinct (tt, tt) (away, tt)

tape_with-distinct : (reels : List Name) (reel : Name) → IsDistinct same reels → has reels reel ≡ false → IsDistinct same (tape_with reels reel)
tape_with-distinct [] reel distinct away = distinct
tape_with-distinct (x ∷ xs) reel distinct away = one-more (x ∷ xs) reel distinct away

distinct-step : (H : History) (minute : ℕ) (machine slot : Name) (command : Command) → command_refusal Two H minute command ≡ None
    → IsDistinct same (tape_of H machine slot) → IsDistinct same (tape_after machine slot command (tape_of H machine slot))
unfolding command_refusal IsDistinct
distinct-step H minute machine slot (MaterialsLoaded m s r) none distinct = by (same m machine && same s slot)
  where
    by : (b : Bool) → IsDistinct same (if b then r ∷ [] else tape_of H machine slot)
    by true = (tt, tt)
    by false = distinct
distinct-step H minute machine slot (MaterialsSpliced m s r) none distinct = by (same m machine && same s slot)
  where
    by : (b : Bool) → IsDistinct same (if b then tape_with (tape_of H machine slot) r else tape_of H machine slot)
    by true =
        let tests = mountable H minute m s r _ none in
        tape_with-distinct (tape_of H machine slot) r distinct (unmounted-nowhere H machine slot r tests.not_mounted (not-zero (left_of H r) tests.some))
    by false = distinct
distinct-step H minute machine slot (MaterialsUnloaded m s) none distinct = by (same m machine && same s slot)
  where
    by : (b : Bool) → IsDistinct same (if b then [] else tape_of H machine slot)
    by true = tt
    by false = distinct
distinct-step H minute machine slot _ none distinct = distinct

-- A reel is on a tape only once, since a spliced reel has pieces left and isn't mounted.
pub tape-distinct : (H : History) (machine slot : Name) → IsJudged Two H → IsDistinct same (tape_of H machine slot)
unfolding tape_of IsDistinct
tape-distinct [] machine slot judged = tt
tape-distinct (e ∷ H) machine slot (next, judged) =
    distinct-step H e.effective machine slot e.stamped.command (next-accepted H e next) (tape-distinct H machine slot judged)

pub live-distinct : (H : History) (machine slot : Name) → IsJudged Two H → IsDistinct same (live_on H machine slot)
unfolding live_on
live-distinct H machine slot judged = distinct-filter same (λ reel. nat_lt 0 (left_of H reel)) (tape_of H machine slot) (tape-distinct H machine slot judged)

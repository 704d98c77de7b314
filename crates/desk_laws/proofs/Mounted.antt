-- Mounted reels after one more entry.
use Rattle.desk_types.proofs.Common.{[], ◌&&◌, ◌-◌, ◌||◌, ◌∙◌, ◌∷◌, ◌≡◌, and-false, and-true, and_from}
use Rattle.desk_types.proofs.Common.{and_parts, ap, arith, Bool, both_ways, command_refusal, false, first}
use Rattle.desk_types.proofs.Common.{History, if◌then◌else◌, is_live_where_loaded, is_mounted, is_none}
use Rattle.desk_types.proofs.Common.{is_some, is_vacant, IsJudged, left_of, List, list_any, live_on, Name}
use Rattle.desk_types.proofs.Common.{nat_lt, None, not, not-false, Option, picks_of, pieces_by, pieces_picked}
use Rattle.desk_types.proofs.Common.{receipt_by, refl, same, same-refl, Some, sym, tape_of, true, unwrap_or}
use Rattle.desk_types.proofs.Common.{ℕ}
use Rattle.desk_laws.proofs.Common.{Command, CountsTaken, Entry, MaterialsInstalled, MaterialsLoaded}
use Rattle.desk_laws.proofs.Common.{MaterialsScrapped, MaterialsSpliced, MaterialsUnloaded, mounted_after}
use Rattle.desk_laws.proofs.Common.{place_after, place_of, Receipt, ReelReceived, Two}
use Rattle.desk_laws.{proofs.Accepted.mountable, proofs.Accepted.next-accepted, proofs.Accepted.received-by}
use Rattle.desk_laws.{proofs.Balance.some-next, proofs.Judgements.untouched, proofs.Mounts.has}
use Rattle.desk_laws.{proofs.Mounts.has-live_on, proofs.Mounts.live-mounted, proofs.Places.live-placed}
use Rattle.desk_laws.{proofs.Places.placed, proofs.Places.untouched-unplaced, specs.Place.is_at}

-- ---- pieces left

abbrev pub some_left : History → Name → Bool
some_left H reel = nat_lt 0 (left_of H reel)

abbrev pub left_after : History → Command → Name → ℕ
left_after H command reel = unwrap_or (pieces_by reel command) (left_of H reel - pieces_picked (picks_of H command) reel)

pub less-none : (n : ℕ) → n - 0 ≡ n
less-none n = omega arith

-- ---- places

at-some : (machine slot : Name) (place : Option (Name × Name)) → is_at machine slot place ≡ true → is_some place ≡ true
at-some machine slot None is = cc
at-some machine slot (Some q) is = refl

abbrev is_placed_with_some : History → Name → Bool
is_placed_with_some H reel = is_some (place_of H reel) && some_left H reel

from-load : (H : History) (reel : Name) (command : Command) → IsJudged Two H → is_live_where_loaded H reel command ≡ true → is_placed_with_some H reel ≡ true
from-load H reel (MaterialsLoaded m s r) judged live =
    let both = and_parts (some_left H reel) (has (tape_of H m s) reel) (sym (has-live_on H m s reel) ∙ live) in
    and_from _ _ (at-some m s (place_of H reel) (live-placed H m s reel judged live)) both.0
from-load H reel _ judged live = cc

from-any : (H : History) (reel : Name) (G : History) → IsJudged Two H → list_any (λ (e : Entry). is_live_where_loaded H reel e.stamped.command) G ≡ true
    → is_placed_with_some H reel ≡ true
from-any H reel [] judged live = cc
from-any H reel (e ∷ G) judged live = by (is_live_where_loaded H reel e.stamped.command) refl live (from-any H reel G judged)
  where
    by : (b : Bool) → is_live_where_loaded H reel e.stamped.command ≡ b → (b || list_any (λ (x : Entry). is_live_where_loaded H reel x.stamped.command) G) ≡ true
        → (list_any (λ (x : Entry). is_live_where_loaded H reel x.stamped.command) G ≡ true → is_placed_with_some H reel ≡ true) → is_placed_with_some H reel ≡ true
    by true here live rest = from-load H reel e.stamped.command judged here
    by false here live rest = rest live

placed-mounted : (H : History) (reel : Name) (place : Option (Name × Name)) → IsJudged Two H → place_of H reel ≡ place → (is_some place && some_left H reel) ≡ true → is_mounted H reel ≡ true
placed-mounted H reel None judged is both = cc
placed-mounted H reel (Some q) judged is some =
    live-mounted H q.0 q.1 reel (
    has-live_on H q.0 q.1 reel
    ∙ and_from _ _ some (placed H q.0 q.1 reel judged some ∙ ap (is_at q.0 q.1) is ∙ and_from _ _ (same-refl q.0) (same-refl q.1)))

pub mounted-is : (H : History) (reel : Name) → IsJudged Two H → is_mounted H reel ≡ (is_some (place_of H reel) && some_left H reel)
mounted-is H reel judged = both_ways _ _ (from-any H reel H judged) (placed-mounted H reel (place_of H reel) judged refl)

-- ---- one more entry

off : (H : History) (machine slot reel : Name) → IsJudged Two H → is_vacant H machine slot ≡ true → some_left H reel ≡ true → is_at machine slot (place_of H reel) ≡ false
off H machine slot reel judged vacant some =
    sym (placed H machine slot reel judged some) ∙ sym (has-live_on H machine slot reel ∙ ap (λ b. b && has (tape_of H machine slot) reel) some) ∙ none (live_on H machine slot) vacant
  where
    none : (reels : List Name) → is_none (first reels) ≡ true → has reels reel ≡ false
    none [] is = refl
    none (x ∷ xs) is = cc

less : (H : History) (reel : Name) (command : Command) → (nat_lt 0 (left_after H command reel) ≡ true → some_left H reel ≡ true)
    → (is_some (place_of H reel) && nat_lt 0 (left_after H command reel)) ≡ (is_placed_with_some H reel && nat_lt 0 (left_after H command reel))
less H reel command had = by (nat_lt 0 (left_after H command reel)) refl
  where
    by : (b : Bool) → nat_lt 0 (left_after H command reel) ≡ b → (is_some (place_of H reel) && b) ≡ (is_placed_with_some H reel && b)
    by true some = sym (and-true (is_placed_with_some H reel) ∙ ap (λ x. is_some (place_of H reel) && x) (had some))
    by false none = and-false _ ∙ sym (and-false (is_placed_with_some H reel))

mounted-step : (H : History) (minute : ℕ) (reel : Name) (command : Command) → IsJudged Two H → command_refusal Two H minute command ≡ None
    → (receipt_by reel minute command ≡ None → nat_lt 0 (left_after H command reel) ≡ true → some_left H reel ≡ true)
    → (is_some (place_after reel command (place_of H reel)) && nat_lt 0 (left_after H command reel))
    ≡ mounted_after (nat_lt 0 (left_after H command reel)) (λ m s. has (live_on H m s) reel) reel command (is_placed_with_some H reel)
unfolding command_refusal
mounted-step H minute reel (ReelReceived r part lot moisture quantity) judged accepted had = by (same r reel) refl
  where
    receipt : Receipt
    receipt = record { part = part; lot = lot; moisture = moisture; quantity = quantity; effective = minute }

    by : (b : Bool) → same r reel ≡ b → (is_some (place_of H reel) && nat_lt 0 (unwrap_or (if◌then◌else◌ {A = Option ℕ} b (Some quantity) None) (left_of H reel - 0)))
        ≡ if b then false else is_placed_with_some H reel
    by true here =
        let none = received-by H minute reel (ReelReceived r part lot moisture quantity) receipt accepted (ap (λ b. if b then Some receipt else None) here) in
        ap (λ p. is_some p && nat_lt 0 quantity) (untouched-unplaced H reel (untouched H reel judged none))
    by false here = ap (λ n. is_some (place_of H reel) && nat_lt 0 n) (less-none (left_of H reel))
mounted-step H minute reel (MaterialsLoaded m s r) judged accepted had = by (same r reel)
  where
    vacant : is_vacant H m s ≡ true
    vacant = not-false _ (mountable H minute m s r _ accepted).of_slot

    apart : (here some : Bool) → some_left H reel ≡ some → is_at m s (place_of H reel) ≡ here
        → (is_some (if◌then◌else◌ {A = Option (Name × Name)} here None (place_of H reel)) && some) ≡ (is_some (place_of H reel) && some)
    apart false some has_some is_here = refl
    apart true false has_some is_here = sym (and-false (is_some (place_of H reel)))
    apart true true has_some is_here = let away = off H m s reel judged vacant has_some in cc

    by : (b : Bool) → (is_some (if◌then◌else◌ {A = Option (Name × Name)} b (Some (m, s)) (if is_at m s (place_of H reel) then None else place_of H reel)) && nat_lt 0 (left_of H reel - 0))
        ≡ if b then nat_lt 0 (left_of H reel - 0) else is_placed_with_some H reel
    by true = refl
    by false =
        ap (λ n. is_some (if is_at m s (place_of H reel) then None else place_of H reel) && nat_lt 0 n) (less-none (left_of H reel))
        ∙ apart (is_at m s (place_of H reel)) (some_left H reel) refl refl
mounted-step H minute reel (MaterialsSpliced m s r) judged accepted had = by (same r reel)
  where
    by : (b : Bool) → (is_some (if◌then◌else◌ {A = Option (Name × Name)} b (Some (m, s)) (place_of H reel)) && nat_lt 0 (left_of H reel - 0))
        ≡ if b then nat_lt 0 (left_of H reel - 0) else is_placed_with_some H reel
    by true = refl
    by false = ap (λ n. is_some (place_of H reel) && nat_lt 0 n) (less-none (left_of H reel))
mounted-step H minute reel (MaterialsUnloaded m s) judged accepted had =
    ap (λ n. is_some (place_after reel (MaterialsUnloaded m s) (place_of H reel)) && nat_lt 0 n) (less-none (left_of H reel))
    ∙ cases (some_left H reel) (is_at m s (place_of H reel)) (place_of H reel)
    ∙ ap (λ b. is_placed_with_some H reel && not b) (sym (there (some_left H reel) refl))
  where
    there : (some : Bool) → some_left H reel ≡ some → has (live_on H m s) reel ≡ (some_left H reel && is_at m s (place_of H reel))
    there true some = has-live_on H m s reel ∙ ap (λ b. some_left H reel && b) (placed H m s reel judged some)
    there false none =
        has-live_on H m s reel ∙ ap (λ b. b && has (tape_of H m s) reel) none ∙ sym (ap (λ b. b && is_at m s (place_of H reel)) none)

    cases : (some here : Bool) (place : Option (Name × Name)) → (is_some (if◌then◌else◌ {A = Option (Name × Name)} here None place) && some) ≡ ((is_some place && some) && not (some && here))
    cases true true place = sym (and-false (is_some place && true))
    cases true false place = sym (and-true (is_some place && true))
    cases false true place = sym (ap (λ x. x && true) (and-false (is_some place)))
    cases false false place = and-false (is_some place) ∙ sym (ap (λ x. x && true) (and-false (is_some place)))
mounted-step H minute reel (MaterialsInstalled m board ds) judged accepted had = less H reel (MaterialsInstalled m board ds) (had refl)
mounted-step H minute reel (MaterialsScrapped m s n) judged accepted had = less H reel (MaterialsScrapped m s n) (had refl)
mounted-step H minute reel (CountsTaken counts) judged accepted had = less H reel (CountsTaken counts) (had refl)
mounted-step H minute reel _ judged accepted had = ap (λ n. is_some (place_of H reel) && nat_lt 0 n) (less-none (left_of H reel))

pub mounted-next : (H : History) (e : Entry) (reel : Name) → IsJudged Two (e ∷ H)
    → is_mounted (e ∷ H) reel ≡ mounted_after (some_left (e ∷ H) reel) (λ m s. has (live_on H m s) reel) reel e.stamped.command (is_mounted H reel)
unfolding left_of place_of
mounted-next H e reel (next, judged) =
    mounted-is (e ∷ H) reel (next, judged)
    ∙ mounted-step H e.effective reel e.stamped.command judged (next-accepted H e next) (some-next H e reel (next, judged))
    ∙ ap (mounted_after (some_left (e ∷ H) reel) (λ m s. has (live_on H m s) reel) reel e.stamped.command) (sym (mounted-is H reel judged))

-- Each reel with pieces left is on the slot of its place and on no other.
use Rattle.desk_types.proofs.Common.{[], ◌&&◌, ◌++◌, ◌∙◌, ◌∷◌, ◌≡◌, and_parts, ap, Bool, command_refusal}
use Rattle.desk_types.proofs.Common.{Contains, false, filter, first, History, if◌then◌else◌, is_mounted}
use Rattle.desk_types.proofs.Common.{is_none, is_vacant, IsJudged, IsUntouched, left_of, List}
use Rattle.desk_types.proofs.Common.{list_any-from_Contains, live_on, Name, nat_list_eq_equiv, nat_lt, None}
use Rattle.desk_types.proofs.Common.{open_by, Option, receipt_by, refl, same, same-true, Some, sym}
use Rattle.desk_types.proofs.Common.{tape_after, tape_of, tape_with, true, ℕ}
use Rattle.desk_laws.proofs.Common.{Command, MaterialsLoaded, MaterialsSpliced, MaterialsUnloaded}
use Rattle.desk_laws.proofs.Common.{place_after, place_of, Receipt, ReelReceived, Two}
use Rattle.desk_laws.proofs.{Accepted.mountable, Accepted.next-accepted, Accepted.received-by}
use Rattle.desk_laws.proofs.{Balance.some-next, Judgements.untouched, Mounts.has, Mounts.has-live_on}
use Rattle.desk_laws.proofs.{Mounts.unreceived-nowhere, SlotsLater.IsOn, SlotsLater.on-load}
use Rattle.desk_laws.proofs.{SlotsLater.on-splice, SlotsLater.on-unload, Tapes.unmounted-nowhere}
use Rattle.desk_laws.specs.Place.{is_at}

-- ---- splices

pub vacant-same : (H : History) (machine slot m s : Name) → (same m machine && same s slot) ≡ true → is_vacant H m s ≡ is_vacant H machine slot
vacant-same H machine slot m s here =
    ap (λ x. is_vacant H x s) (same-true m machine (and_parts _ _ here).0) ∙ ap (λ x. is_vacant H machine x) (same-true s slot (and_parts _ _ here).1)

pub joined : (H : History) (machine slot r : Name) → is_vacant H machine slot ≡ false → tape_with (tape_of H machine slot) r ≡ tape_of H machine slot ++ r ∷ []
unfolding live_on
joined H machine slot r some = by (tape_of H machine slot) some
  where
    by : (tape : List Name) → is_none (first (filter (λ reel. nat_lt 0 (left_of H reel)) tape)) ≡ false → tape_with tape r ≡ tape ++ r ∷ []
    by [] some = cc
    by (x ∷ xs) some = refl

pub joined-same : (H : History) (machine slot m s r : Name) → (same m machine && same s slot) ≡ true → is_vacant H m s ≡ false
    → tape_with (tape_of H machine slot) r ≡ tape_of H machine slot ++ r ∷ []
joined-same H machine slot m s r here some = joined H machine slot r (sym (vacant-same H machine slot m s here) ∙ some)

-- ---- reels that were not received

untouched-after : (reel : Name) (command : Command) → open_by reel command ≡ None → place_after reel command None ≡ None
untouched-after reel (MaterialsLoaded m s r) none = by (same r reel) none
  where
    by : (b : Bool) → (if b then Some true else None) ≡ None → if◌then◌else◌ {A = Option (Name × Name)} b (Some (m, s)) None ≡ None
    by true none = cc
    by false none = refl
untouched-after reel (MaterialsSpliced m s r) none = by (same r reel) none
  where
    by : (b : Bool) → (if b then Some true else None) ≡ None → if◌then◌else◌ {A = Option (Name × Name)} b (Some (m, s)) None ≡ None
    by true none = cc
    by false none = refl
untouched-after reel (MaterialsUnloaded m s) none = refl
untouched-after reel _ none = refl

pub untouched-unplaced : (H : History) (reel : Name) → IsUntouched H reel → place_of H reel ≡ None
unfolding place_of
untouched-unplaced [] reel all = refl
untouched-unplaced (e ∷ H) reel (none, all) = ap (place_after reel e.stamped.command) (untouched-unplaced H reel all) ∙ untouched-after reel e.stamped.command none

-- ---- reels with pieces left

on-step : (H : History) (minute : ℕ) (machine slot reel : Name) (command : Command) → IsJudged Two H → command_refusal Two H minute command ≡ None
    → (receipt_by reel minute command ≡ None → nat_lt 0 (left_of H reel) ≡ true)
    → (nat_lt 0 (left_of H reel) ≡ true → IsOn machine slot reel (tape_of H machine slot) (place_of H reel))
    → IsOn machine slot reel (tape_after machine slot command (tape_of H machine slot)) (place_after reel command (place_of H reel))
unfolding command_refusal
on-step H minute machine slot reel (ReelReceived r part lot moisture quantity) judged accepted had on = by (same r reel) refl had
  where
    receipt : Receipt
    receipt = record { part = part; lot = lot; moisture = moisture; quantity = quantity; effective = minute }

    by : (b : Bool) → same r reel ≡ b → ((if b then Some receipt else None) ≡ None → nat_lt 0 (left_of H reel) ≡ true)
        → IsOn machine slot reel (tape_of H machine slot) (place_of H reel)
    by true here had =
        let none = received-by H minute reel (ReelReceived r part lot moisture quantity) receipt accepted (ap (λ b. if b then Some receipt else None) here) in
        unreceived-nowhere H machine slot reel judged none ∙ sym (ap (is_at machine slot) (untouched-unplaced H reel (untouched H reel judged none)))
    by false here had = on (had refl)
on-step H minute machine slot reel (MaterialsLoaded m s r) judged accepted had on =
    let tests = mountable H minute m s r _ accepted in
    let some = had refl in
    on-load machine slot reel m s r (tape_of H machine slot) (place_of H reel) (on some)
    (λ is. unmounted-nowhere H machine slot reel (sym (ap (λ x. is_mounted H x) (same-true r reel is)) ∙ tests.not_mounted) some)
on-step H minute machine slot reel (MaterialsSpliced m s r) judged accepted had on =
    let tests = mountable H minute m s r _ accepted in
    let some = had refl in
    on-splice machine slot reel m s r (tape_of H machine slot) (place_of H reel) (on some)
    (λ here. joined-same H machine slot m s r here tests.of_slot)
    (λ is. unmounted-nowhere H machine slot reel (sym (ap (λ x. is_mounted H x) (same-true r reel is)) ∙ tests.not_mounted) some)
on-step H minute machine slot reel (MaterialsUnloaded m s) judged accepted had on =
    on-unload machine slot reel m s (tape_of H machine slot) (place_of H reel) (on (had refl))
on-step H minute machine slot reel _ judged accepted had on = on (had refl)

pub placed : (H : History) (machine slot reel : Name) → IsJudged Two H → nat_lt 0 (left_of H reel) ≡ true → has (tape_of H machine slot) reel ≡ is_at machine slot (place_of H reel)
unfolding tape_of place_of left_of
placed [] machine slot reel judged some = cc
placed (e ∷ H) machine slot reel (next, judged) some =
    on-step H e.effective machine slot reel e.stamped.command judged (next-accepted H e next)
    (λ other. some-next H e reel (next, judged) other some)
    (placed H machine slot reel judged)

pub live-placed : (H : History) (machine slot reel : Name) → IsJudged Two H → has (live_on H machine slot) reel ≡ true → is_at machine slot (place_of H reel) ≡ true
live-placed H machine slot reel judged live =
    let both = and_parts (nat_lt 0 (left_of H reel)) (has (tape_of H machine slot) reel) (sym (has-live_on H machine slot reel) ∙ live) in
    sym (placed H machine slot reel judged both.0) ∙ both.1

pub one-slot : (H : History) (m s machine slot reel : Name) → IsJudged Two H → Contains (live_on H m s) reel → Contains (live_on H machine slot) reel
    → (m ≡ machine) × (s ≡ slot)
one-slot H m s machine slot reel judged one other =
    by (place_of H reel) (live-placed H m s reel judged (list_any-from_Contains nat_list_eq_equiv reel (live_on H m s) one))
    (live-placed H machine slot reel judged (list_any-from_Contains nat_list_eq_equiv reel (live_on H machine slot) other))
  where
    by : (place : Option (Name × Name)) → is_at m s place ≡ true → is_at machine slot place ≡ true → (m ≡ machine) × (s ≡ slot)
    by None here there = cc
    by (Some q) here there =
        let a = and_parts (same q.0 m) (same q.1 s) here in
        let b = and_parts (same q.0 machine) (same q.1 slot) there in
        (sym (same-true q.0 m a.0) ∙ same-true q.0 machine b.0, sym (same-true q.1 s a.1) ∙ same-true q.1 slot b.1)

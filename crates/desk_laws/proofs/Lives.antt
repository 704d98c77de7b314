-- Live reels after one more entry. Picks come only from live reels.
use Rattle.desk_types.proofs.Common.{[], ◌&&◌, ◌++◌, ◌-◌, ◌∙◌, ◌∷◌, ◌≡◌, ap, arith, Bench, bench_of, Bool}
use Rattle.desk_types.proofs.Common.{command_refusal, designators_refusal, false, filter-append, find, first}
use Rattle.desk_types.proofs.Common.{History, if◌then◌else◌, install_picks, is_none, IsJudged, left_of, List}
use Rattle.desk_types.proofs.Common.{list_any, live_on, lt-ltb, ltb-false, ltb-true, min, Name, nat_lt, None}
use Rattle.desk_types.proofs.Common.{Option, option_and_then, option_map, option_or, option_to_list, or_left}
use Rattle.desk_types.proofs.Common.{or_right, pick_for, pieces_off, pieces_picked, receipt_by, refl, same}
use Rattle.desk_types.proofs.Common.{same-refl, scrap_picks, slot_on, Some, sym, tape_after, tape_of}
use Rattle.desk_types.proofs.Common.{tape_with, true, ℕ}
use Rattle.desk_laws.proofs.Common.{Command, Entry, MaterialsLoaded, MaterialsSpliced, MaterialsUnloaded}
use Rattle.desk_laws.proofs.Common.{Pick, Placed, Purpose, Receipt, Refusal, Two}
use Rattle.desk_laws.proofs.{Accepted.mountable, Accepted.next-accepted, Accepted.received-once}
use Rattle.desk_laws.proofs.{Balance.some-next, Mounts.has, Mounts.unreceived-nowhere, Places.joined}
use Rattle.desk_laws.proofs.{Places.vacant-same}
use Rattle.desk_types.specs.{Pieces.bench_by, Refusals.designator_refusal}
use Rattle.std.specs.List.{filter}

-- ---- filters

filter-twice : (p q : Name → Bool) (reels : List Name) → ((r : Name) → has reels r ≡ true → p r ≡ true → q r ≡ true) → filter p (filter q reels) ≡ filter p reels
filter-twice p q [] weaker = refl
filter-twice p q (x ∷ xs) weaker =
    by (q x) (p x) refl refl (filter-twice p q xs (λ r there. weaker r (or_right (same r x) (has xs r) there)))
  where
    by : (b c : Bool) → q x ≡ b → p x ≡ c → filter p (filter q xs) ≡ filter p xs
        → filter p (if b then x ∷ filter q xs else filter q xs) ≡ if c then x ∷ filter p xs else filter p xs
    by true c weak strong rest =
        ap (λ t. if t then x ∷ filter p (filter q xs) else filter p (filter q xs)) strong ∙ ap (λ l. if c then x ∷ l else l) rest
    by false true weak strong rest = let passes = weaker x (or_left (same x x) (has xs x) (same-refl x)) strong in cc
    by false false weak strong rest = rest

find-filter : (p q : Name → Bool) → ((r : Name) → p r ≡ true → q r ≡ true) → (reels : List Name) → find p (filter q reels) ≡ find p reels
find-filter p q weaker [] = refl
find-filter p q weaker (x ∷ xs) = by (q x) (p x) refl refl (find-filter p q weaker xs)
  where
    by : (b c : Bool) → q x ≡ b → p x ≡ c → find p (filter q xs) ≡ find p xs
        → find p (if b then x ∷ filter q xs else filter q xs) ≡ if c then Some x else find p xs
    by true c weak strong rest = ap (λ t. if t then Some x else find p (filter q xs)) strong ∙ ap (λ o. if c then Some x else o) rest
    by false true weak strong rest = let passes = weaker x strong in cc
    by false false weak strong rest = rest

-- ---- one more entry

some-before : (H : History) (e : Entry) (machine slot reel : Name) → IsJudged Two (e ∷ H) → has (tape_of H machine slot) reel ≡ true
    → nat_lt 0 (left_of (e ∷ H) reel) ≡ true → nat_lt 0 (left_of H reel) ≡ true
some-before H e machine slot reel (next, judged) there = some-next H e reel (next, judged) (by (receipt_by reel e.effective e.stamped.command) refl)
  where
    by : (said : Option Receipt) → receipt_by reel e.effective e.stamped.command ≡ said → receipt_by reel e.effective e.stamped.command ≡ None
    by None is = is
    by (Some receipt) is = let nowhere = unreceived-nowhere H machine slot reel judged (received-once H e reel receipt next is) in cc

tape_with-some : (reels : List Name) (reel : Name) → is_none (first reels) ≡ false → tape_with reels reel ≡ reels ++ reel ∷ []
tape_with-some [] reel some = cc
tape_with-some (x ∷ xs) reel some = refl

-- An accepted command changes the live reels as it changes the tape, for tests that agree on both.
live-step : (H : History) (minute : ℕ) (machine slot : Name) (command : Command) (keeps : Name → Bool) → command_refusal Two H minute command ≡ None
    → filter keeps (live_on H machine slot) ≡ filter keeps (tape_of H machine slot)
    → filter keeps (tape_after machine slot command (tape_of H machine slot)) ≡ filter keeps (tape_after machine slot command (live_on H machine slot))
unfolding command_refusal
live-step H minute machine slot (MaterialsLoaded m s r) keeps accepted alike = by (same m machine && same s slot)
  where
    by : (b : Bool) → filter keeps (if b then r ∷ [] else tape_of H machine slot) ≡ filter keeps (if b then r ∷ [] else live_on H machine slot)
    by true = refl
    by false = sym alike
live-step H minute machine slot (MaterialsSpliced m s r) keeps accepted alike = by (same m machine && same s slot) refl
  where
    by : (b : Bool) → (same m machine && same s slot) ≡ b
        → filter keeps (if b then tape_with (tape_of H machine slot) r else tape_of H machine slot) ≡ filter keeps (if b then tape_with (live_on H machine slot) r else live_on H machine slot)
    by true here =
        let some = sym (vacant-same H machine slot m s here) ∙ (mountable H minute m s r _ accepted).of_slot in
        ap (filter keeps) (joined H machine slot r some)
        ∙ filter-append keeps (tape_of H machine slot) (r ∷ [])
        ∙ ap (λ l. l ++ filter keeps (r ∷ [])) (sym alike)
        ∙ sym (filter-append keeps (live_on H machine slot) (r ∷ []))
        ∙ ap (filter keeps) (sym (tape_with-some (live_on H machine slot) r some))
    by false here = sym alike
live-step H minute machine slot (MaterialsUnloaded m s) keeps accepted alike = by (same m machine && same s slot)
  where
    by : (b : Bool) → filter keeps (if b then [] else tape_of H machine slot) ≡ filter keeps (if b then [] else live_on H machine slot)
    by true = refl
    by false = sym alike
live-step H minute machine slot _ keeps accepted alike = sym alike

-- The command's effect on the live reels, less those that it spends, gives the next live reels.
pub live-next : (H : History) (e : Entry) (machine slot : Name) → IsJudged Two (e ∷ H)
    → live_on (e ∷ H) machine slot ≡ filter (λ r. nat_lt 0 (left_of (e ∷ H) r)) (tape_after machine slot e.stamped.command (live_on H machine slot))
unfolding live_on tape_of
live-next H e machine slot (next, judged) =
    live-step H e.effective machine slot e.stamped.command (λ r. nat_lt 0 (left_of (e ∷ H) r)) (next-accepted H e next)
    (filter-twice (λ r. nat_lt 0 (left_of (e ∷ H) r)) (λ r. nat_lt 0 (left_of H r)) (tape_of H machine slot) (λ r there. some-before H e machine slot r (next, judged) there))

-- ---- picks

-- A search for a reel with pieces left finds the same among live reels as on the tape.
pub find-live : (H : History) (machine slot : Name) (test : Name → Bool) → ((r : Name) → test r ≡ true → nat_lt 0 (left_of H r) ≡ true)
    → find test (live_on H machine slot) ≡ find test (tape_of H machine slot)
unfolding live_on
find-live H machine slot test some = find-filter test (λ r. nat_lt 0 (left_of H r)) some (tape_of H machine slot)

more-some : (k n : ℕ) → nat_lt k n ≡ true → nat_lt 0 n ≡ true
more-some k n more = let above = ltb-true k n more in lt-ltb 0 n (omega (arith, above))

-- The context of an install, with live reels alone.
abbrev pub live_bench : History → Name → Name → Bench
live_bench H machine board = bench_by (live_on H) (left_of H) H machine board

pub pick-live : (H : History) (machine board : Name) (before : List Pick) (d : Name) → pick_for (live_bench H machine board) before d ≡ pick_for (bench_of H machine board) before d
pick-live H machine board before d =
    ap (λ (pick_at : Name → Option Pick). option_and_then pick_at (slot_on H machine d))
    (λ j slot. option_map (λ reel. record { reel = reel; quantity = 1; purpose = Placed board d machine slot })
    (find-live H machine slot (λ r. nat_lt (pieces_picked before r) (left_of H r)) (λ r. more-some (pieces_picked before r) (left_of H r)) j))

pub picks-live : (H : History) (machine board : Name) (before : List Pick) (ds : List Name) → install_picks (live_bench H machine board) before ds ≡ install_picks (bench_of H machine board) before ds
unfolding install_picks
picks-live H machine board before [] = refl
picks-live H machine board before (d ∷ ds) =
    ap (λ (o : Option Pick). install_picks (live_bench H machine board) (before ++ option_to_list o) ds) (pick-live H machine board before d)
    ∙ picks-live H machine board (before ++ option_to_list (pick_for (bench_of H machine board) before d)) ds

pub designators-live : (H : History) (placed : Name → Bool) (machine board : Name) (before : List Pick) (seen ds : List Name)
    → designators_refusal (live_bench H machine board) placed before seen ds ≡ designators_refusal (bench_of H machine board) placed before seen ds
designators-live H placed machine board before seen [] = refl
designators-live H placed machine board before seen (d ∷ ds) =
    ap (λ (o : Option Pick). option_or (designator_refusal d (slot_on H machine d) (list_any (same d) seen) (placed d) o)
    (designators_refusal (live_bench H machine board) placed (before ++ option_to_list o) (seen ++ d ∷ []) ds)) (pick-live H machine board before d)
    ∙ ap (λ (o : Option Refusal). option_or (designator_refusal d (slot_on H machine d) (list_any (same d) seen) (placed d) (pick_for (bench_of H machine board) before d)) o)
    (designators-live H placed machine board (before ++ option_to_list (pick_for (bench_of H machine board) before d)) (seen ++ d ∷ []) ds)

pub scrap-filter : (pieces : Name → ℕ) (purpose : Purpose) (reels : List Name) (n : ℕ)
    → scrap_picks pieces purpose (filter (λ r. nat_lt 0 (pieces r)) reels) n ≡ scrap_picks pieces purpose reels n
scrap-filter pieces purpose [] n = refl
scrap-filter pieces purpose (r ∷ rs) n = by (nat_lt 0 (pieces r)) refl (scrap-filter pieces purpose rs)
  where
    live : List Name
    live = filter (λ x. nat_lt 0 (pieces x)) rs

    none : (k : ℕ) → k ≡ 0 → scrap_picks pieces purpose rs n ≡ pieces_off r (min n k) purpose ++ scrap_picks pieces purpose rs (n - k)
    none k is =
        let nothing : min n k ≡ 0 = omega (arith, is) in
        let all : n - k ≡ n = omega (arith, is) in
        sym (ap (λ q. pieces_off r q purpose ++ scrap_picks pieces purpose rs (n - k)) nothing ∙ ap (scrap_picks pieces purpose rs) all)

    by : (b : Bool) → nat_lt 0 (pieces r) ≡ b → ((k : ℕ) → scrap_picks pieces purpose live k ≡ scrap_picks pieces purpose rs k)
        → scrap_picks pieces purpose (if b then r ∷ live else live) n ≡ pieces_off r (min n (pieces r)) purpose ++ scrap_picks pieces purpose rs (n - pieces r)
    by true some rest = ap (λ l. pieces_off r (min n (pieces r)) purpose ++ l) (rest (n - pieces r))
    by false few rest = rest n ∙ none (pieces r) (let nothing = ltb-false 0 (pieces r) few in omega (arith, nothing))

pub scrap-live : (H : History) (purpose : Purpose) (machine slot : Name) (n : ℕ)
    → scrap_picks (left_of H) purpose (live_on H machine slot) n ≡ scrap_picks (left_of H) purpose (tape_of H machine slot) n
unfolding live_on
scrap-live H purpose machine slot n = scrap-filter (left_of H) purpose (tape_of H machine slot) n

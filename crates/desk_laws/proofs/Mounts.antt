-- The reels on slots, and the entries that put them there.
use Rattle.desk_types.proofs.Common.{[], ◌&&◌, ◌||◌, ◌∙◌, ◌∷◌, ◌≡◌, AllByRecursion, and_parts, ap, Bool}
use Rattle.desk_types.proofs.Common.{Contains, Contains-from_any, false, first, front_of, History}
use Rattle.desk_types.proofs.Common.{if◌then◌else◌, is_live_where_loaded, is_mounted, is_none, is_some}
use Rattle.desk_types.proofs.Common.{IsJudged, IsUntouched, left_of, List, list_any, list_any-append}
use Rattle.desk_types.proofs.Common.{list_any-from_Contains, live_on, Name, nat_list_eq_equiv, nat_lt, None}
use Rattle.desk_types.proofs.Common.{open_by, Option, or_left, or_right, receipt_of, refl, same, same-refl}
use Rattle.desk_types.proofs.Common.{same-sym, same-true, Some, subst, sym, tape_after, tape_of, tape_with}
use Rattle.desk_types.proofs.Common.{true}
use Rattle.desk_laws.proofs.Common.{Command, Entry, MaterialsLoaded, MaterialsSpliced, MaterialsUnloaded}
use Rattle.desk_laws.proofs.Common.{Receipt, Two}
use Rattle.desk_laws.{proofs.Judgements.untouched, specs.Verified.mounts}
use Rattle.std.{proofs.lemmas.Map.Views.any-filter_same, specs.List.filter}

abbrev pub has : List Name → Name → Bool
has reels reel = list_any (same reel) reels

pub has-from : (names : List Name) (name : Name) → Contains names name → has names name ≡ true
has-from names name there = list_any-from_Contains nat_list_eq_equiv name names there

pub from-has : (names : List Name) (name : Name) → has names name ≡ true → Contains names name
from-has names name is = Contains-from_any same-true name names is

pub all-at : (P : Name → Type 0) (names : List Name) (r : Name) → AllByRecursion P names → has names r ≡ true → P r
all-at P [] r all there = cc
all-at P (x ∷ xs) r (first, all) there = by (same r x) refl there (all-at P xs r all)
  where
    by : (b : Bool) → same r x ≡ b → (b || has xs r) ≡ true → (has xs r ≡ true → P r) → P r
    by true here there rest = subst P (sym (same-true r x here)) first
    by false away there rest = rest there

-- ---- live reels

pub has-filter : (p : Name → Bool) (reels : List Name) (reel : Name) → has (filter (λ r. p r) reels) reel ≡ (p reel && has reels reel)
has-filter p reels reel = any-filter_same (same reel) p (p reel) (λ r is. ap p (sym (same-true reel r is))) reels

pub has-live_on : (H : History) (machine slot reel : Name) → has (live_on H machine slot) reel ≡ (nat_lt 0 (left_of H reel) && has (tape_of H machine slot) reel)
unfolding live_on
has-live_on H machine slot reel = has-filter (λ r. nat_lt 0 (left_of H r)) (tape_of H machine slot) reel

-- ---- the entry that mounted a reel

has-one : (r reel : Name) (rest : Bool) → has (r ∷ []) reel ≡ true → (same r reel || rest) ≡ true
has-one r reel rest is = by (same reel r) (same-sym reel r) is
  where
    by : (b : Bool) → b ≡ same r reel → (b || false) ≡ true → (same r reel || rest) ≡ true
    by true eq is = or_left _ rest (sym eq)
    by false eq is = cc

has-tape_with : (reels : List Name) (r reel : Name) (rest : Bool) → has (tape_with reels r) reel ≡ true → (has reels reel ≡ true → rest ≡ true)
    → (same r reel || rest) ≡ true
has-tape_with [] r reel rest is there = cc
has-tape_with (x ∷ xs) r reel rest is there = by (has (x ∷ xs) reel) refl (sym (list_any-append (same reel) (x ∷ xs) (r ∷ [])) ∙ is)
  where
    by : (b : Bool) → has (x ∷ xs) reel ≡ b → (b || has (r ∷ []) reel) ≡ true → (same r reel || rest) ≡ true
    by true before is = or_right _ rest (there before)
    by false before is = has-one r reel rest is

pub mounted-step : (machine slot reel : Name) (command : Command) (reels : List Name) (rest : Bool) → has (tape_after machine slot command reels) reel ≡ true
    → (has reels reel ≡ true → rest ≡ true) → (mounts machine slot reel command || rest) ≡ true
mounted-step machine slot reel (MaterialsLoaded m s r) reels rest is there = by (same m machine && same s slot) is
  where
    by : (b : Bool) → has (if b then r ∷ [] else reels) reel ≡ true → ((b && same r reel) || rest) ≡ true
    by true is = has-one r reel rest is
    by false is = there is
mounted-step machine slot reel (MaterialsSpliced m s r) reels rest is there = by (same m machine && same s slot) is
  where
    by : (b : Bool) → has (if b then tape_with reels r else reels) reel ≡ true → ((b && same r reel) || rest) ≡ true
    by true is = has-tape_with reels r reel rest is there
    by false is = there is
mounted-step machine slot reel (MaterialsUnloaded m s) reels rest is there = by (same m machine && same s slot) is
  where
    by : (b : Bool) → has (if b then [] else reels) reel ≡ true → rest ≡ true
    by true is = cc
    by false is = there is
mounted-step machine slot reel _ reels rest is there = there is

pub mounted-by : (H : History) (machine slot reel : Name) → has (tape_of H machine slot) reel ≡ true
    → list_any (λ (e : Entry). mounts machine slot reel e.stamped.command) H ≡ true
unfolding tape_of
mounted-by [] machine slot reel is = cc
mounted-by (e ∷ H) machine slot reel is =
    mounted-step machine slot reel e.stamped.command (tape_of H machine slot) _ is (mounted-by H machine slot reel)

not-there : (here b : Bool) → (if b then Some true else None) ≡ None → (here && b) ≡ false
not-there true true none = cc
not-there true false none = refl
not-there false b none = refl

untouched-mounts : (machine slot reel : Name) (command : Command) → open_by reel command ≡ None → mounts machine slot reel command ≡ false
untouched-mounts machine slot reel (MaterialsLoaded m s r) none = not-there (same m machine && same s slot) (same r reel) none
untouched-mounts machine slot reel (MaterialsSpliced m s r) none = not-there (same m machine && same s slot) (same r reel) none
untouched-mounts machine slot reel _ none = refl

mounts-none : (H : History) (machine slot reel : Name) → IsUntouched H reel → list_any (λ (e : Entry). mounts machine slot reel e.stamped.command) H ≡ false
mounts-none [] machine slot reel all = refl
mounts-none (e ∷ H) machine slot reel (none, all) =
    ap (λ b. b || list_any (λ (e' : Entry). mounts machine slot reel e'.stamped.command) H) (untouched-mounts machine slot reel e.stamped.command none)
    ∙ mounts-none H machine slot reel all

pub unreceived-nowhere : (H : History) (machine slot reel : Name) → IsJudged Two H → receipt_of H reel ≡ None → has (tape_of H machine slot) reel ≡ false
unreceived-nowhere H machine slot reel judged none = by (has (tape_of H machine slot) reel) refl
  where
    by : (b : Bool) → has (tape_of H machine slot) reel ≡ b → has (tape_of H machine slot) reel ≡ false
    by true on = cc (mounted-by H machine slot reel on, mounts-none H machine slot reel (untouched H reel judged none))
    by false off = off

-- ---- loaded slots

-- A slot with a tape after a command was loaded by it or had one before; `test` holds for its
-- loads.
loaded-step : (machine slot : Name) (test : Command → Bool) → ((r : Name) → test (MaterialsLoaded machine slot r) ≡ true) → (command : Command)
    (reels : List Name) (rest : Bool) → is_none (first (tape_after machine slot command reels)) ≡ false → (is_none (first reels) ≡ false → rest ≡ true)
    → (test command || rest) ≡ true
loaded-step machine slot test of_load (MaterialsLoaded m s r) reels rest some there = by (same m machine && same s slot) refl some
  where
    by : (b : Bool) → (same m machine && same s slot) ≡ b → is_none (first (if b then r ∷ [] else reels)) ≡ false
        → (test (MaterialsLoaded m s r) || rest) ≡ true
    by true here some =
        let machine_is = same-true m machine (and_parts _ _ here).0 in
        let slot_is = same-true s slot (and_parts _ _ here).1 in
        or_left _ rest (ap (λ m'. test (MaterialsLoaded m' s r)) machine_is ∙ ap (λ s'. test (MaterialsLoaded machine s' r)) slot_is ∙ of_load r)
    by false here some = or_right _ rest (there some)
loaded-step machine slot test of_load (MaterialsSpliced m s r) reels rest some there = or_right _ rest (there (by (same m machine && same s slot) reels some))
  where
    by : (b : Bool) (reels : List Name) → is_none (first (if b then tape_with reels r else reels)) ≡ false → is_none (first reels) ≡ false
    by true [] some = some
    by true (x ∷ xs) some = refl
    by false reels some = some
loaded-step machine slot test of_load (MaterialsUnloaded m s) reels rest some there = or_right _ rest (there (by (same m machine && same s slot) some))
  where
    by : (b : Bool) → is_none (first (if b then [] else reels)) ≡ false → is_none (first reels) ≡ false
    by true some = cc
    by false some = some
loaded-step machine slot test of_load _ reels rest some there = or_right _ rest (there some)

pub loaded-by : (H : History) (machine slot : Name) (test : Command → Bool) → ((r : Name) → test (MaterialsLoaded machine slot r) ≡ true)
    → is_none (first (tape_of H machine slot)) ≡ false → list_any (λ (e : Entry). test e.stamped.command) H ≡ true
unfolding tape_of
loaded-by [] machine slot test of_load some = cc
loaded-by (e ∷ H) machine slot test of_load some =
    loaded-step machine slot test of_load e.stamped.command (tape_of H machine slot) _ some (loaded-by H machine slot test of_load)

pub has-first : (reels : List Name) (reel : Name) → has reels reel ≡ true → is_none (first reels) ≡ false
has-first [] reel is = cc
has-first (x ∷ xs) reel is = refl

pub live-mounted : (H : History) (machine slot reel : Name) → has (live_on H machine slot) reel ≡ true → is_mounted H reel ≡ true
live-mounted H machine slot reel is =
    loaded-by H machine slot (is_live_where_loaded H reel) (λ r. is) (has-first (tape_of H machine slot) reel on_tape)
  where
    on_tape : has (tape_of H machine slot) reel ≡ true
    on_tape = (and_parts (nat_lt 0 (left_of H reel)) _ (sym (has-live_on H machine slot reel) ∙ is)).1

pub live-received : (H : History) (machine slot reel : Name) → IsJudged Two H → has (live_on H machine slot) reel ≡ true → is_some (receipt_of H reel) ≡ true
live-received H machine slot reel judged is = by (receipt_of H reel) refl
  where
    on_tape : has (tape_of H machine slot) reel ≡ true
    on_tape = (and_parts (nat_lt 0 (left_of H reel)) _ (sym (has-live_on H machine slot reel) ∙ is)).1

    by : (said : Option Receipt) → receipt_of H reel ≡ said → is_some (receipt_of H reel) ≡ true
    by (Some receipt) says = ap is_some says
    by None says = let nowhere = unreceived-nowhere H machine slot reel judged says in let there = on_tape in cc

-- ---- front reels

first-there : (reels : List Name) (reel : Name) → first reels ≡ Some reel → has reels reel ≡ true
first-there [] reel is = cc
first-there (x ∷ xs) reel is = let same-one = same-refl reel in cc

pub front-mounted : (H : History) (machine slot reel : Name) → front_of H machine slot ≡ Some reel → is_mounted H reel ≡ true
front-mounted H machine slot reel is = live-mounted H machine slot reel (first-there (live_on H machine slot) reel is)

pub front-received : (H : History) (machine slot reel : Name) → IsJudged Two H → front_of H machine slot ≡ Some reel → is_some (receipt_of H reel) ≡ true
front-received H machine slot reel judged is = live-received H machine slot reel judged (first-there (live_on H machine slot) reel is)

-- Searches in the definitions agree with the plain rules.
use Rattle.desk_types.proofs.Common.{[], ◌&&◌, ◌||◌, ◌∙◌, ◌∷◌, ◌≡◌, ◌≢◌, and_parts, Any, Any-from_list_any}
use Rattle.desk_types.proofs.Common.{ap, Bool, cons_option, Contains, Contains-from_any, false, filter_map}
use Rattle.desk_types.proofs.Common.{first, History, if◌then◌else◌, in_work_on, is_in_work, is_in_work_on}
use Rattle.desk_types.proofs.Common.{is_live_where_loaded, is_mounted, is_none, is_placed_on, IsJudged}
use Rattle.desk_types.proofs.Common.{latest, List, list_any, list_any-from_Any, list_any-from_Contains}
use Rattle.desk_types.proofs.Common.{live_on, loaded_slots, Name, nat_list_eq_equiv, None, Option}
use Rattle.desk_types.proofs.Common.{option_map_or, option_or, or_left, or_right, placements_of, refl, same}
use Rattle.desk_types.proofs.Common.{same-refl, same-true, same_pair, Some, sym, tape_of, true, unwrap_or}
use Rattle.desk_types.proofs.Common.{work_by}
use Rattle.desk_laws.proofs.Common.{Command, Entry, MaterialsLoaded, Placement, Two, WorkCompleted}
use Rattle.desk_laws.proofs.Common.{WorkStarted}
use Rattle.desk_laws.proofs.{Designators.spot-placed, Designators.spots_of, Mounts.has, Mounts.live-mounted}
use Rattle.desk_laws.proofs.{Mounts.loaded-by, NameSets.has-set}
use Rattle.desk_types.specs.{View.slot_by, Work.is_in_work_where_started}

-- ---- mounted reels

pub mounted-live : (H : History) (reel : Name) → is_mounted H reel ≡ true → (machine : Name) × (slot : Name) × Contains (live_on H machine slot) reel
mounted-live H reel is = let some = Any-from_list_any (λ (e : Entry). is_live_where_loaded H reel e.stamped.command) H is in by some.1.stamped.command some.4
  where
    by : (command : Command) → is_live_where_loaded H reel command ≡ true → (machine : Name) × (slot : Name) × Contains (live_on H machine slot) reel
    by (MaterialsLoaded m s r) live = (m, s, Contains-from_any same-true reel (live_on H m s) live)
    by _ live = cc

pub mounted-there : (H : History) (reel : Name) → (machine : Name) × (slot : Name) × Contains (live_on H machine slot) reel → is_mounted H reel ≡ true
mounted-there H reel (machine, slot, live) =
    live-mounted H machine slot reel (list_any-from_Contains nat_list_eq_equiv reel (live_on H machine slot) live)

-- ---- placed designators

abbrev pub IsOf : Name → Name → Placement → Type 0
IsOf board designator p = (p.board ≡ board) × (p.designator ≡ designator)

spots-any : (ps : List Placement) (board d : Name)
    → list_any (same_pair (board, d)) (spots_of ps) ≡ list_any (λ (p : Placement). same board p.board && same d p.designator) ps
spots-any [] board d = refl
spots-any (p ∷ ps) board d = ap (λ b. (same board p.board && same d p.designator) || b) (spots-any ps board d)

pub placed-among : (H : History) (board d : Name) → IsJudged Two H → is_placed_on H board d ≡ true → Any (IsOf board d) (placements_of H)
placed-among H board d judged is =
    let some = Any-from_list_any (λ (p : Placement). same board p.board && same d p.designator) (placements_of H) (
    sym (spots-any (placements_of H) board d) ∙ spot-placed H board d judged ∙ is) in
    let both = and_parts (same board some.1.board) (same d some.1.designator) some.4 in
    (some.0, some.1, some.2, some.3, (sym (same-true board some.1.board both.0), sym (same-true d some.1.designator both.1)))

pub among-placed : (H : History) (board d : Name) → IsJudged Two H → Any (IsOf board d) (placements_of H) → is_placed_on H board d ≡ true
among-placed H board d judged (k, p, within, at, (of_board, of_designator)) =
    sym (spot-placed H board d judged) ∙ spots-any (placements_of H) board d
    ∙ list_any-from_Any (λ (p : Placement). same board p.board && same d p.designator) (placements_of H) (k, p, within, at, both)
  where
    both : (same board p.board && same d p.designator) ≡ true
    both =
        ap (λ b. same board b && same d p.designator) of_board ∙ ap (λ b. b && same d p.designator) (same-refl board)
        ∙ ap (same d) of_designator ∙ same-refl d

-- ---- boards in work

pub in_work-somewhere : (H : History) (board : Name) → is_in_work H board ≡ true → (machine : Name) × (in_work_on H machine ≡ Some board)
in_work-somewhere H board is = let some = Any-from_list_any (λ (e : Entry). is_in_work_where_started H board e.stamped.command) H is in by some.1.stamped.command some.4
  where
    there : (machine : Name) (at : Option Name) → in_work_on H machine ≡ at → option_map_or (same board) at false ≡ true → (machine : Name) × (in_work_on H machine ≡ Some board)
    there machine None at one = cc
    there machine (Some b) at one = (machine, at ∙ ap (λ x. Some x) (sym (same-true board b one)))

    by : (command : Command) → is_in_work_where_started H board command ≡ true → (machine : Name) × (in_work_on H machine ≡ Some board)
    by (WorkStarted machine b) one = there machine (in_work_on H machine) refl (and_parts (same b board) (is_in_work_on H machine board) one).1
    by _ one = cc

-- A board in work on the machine was started there, now or earlier; `test` holds for such starts.
started-step : (machine board : Name) (test : Command → Bool) → test (WorkStarted machine board) ≡ true → (command : Command) (before : Option (Option Name)) (rest : Bool)
    → unwrap_or (option_or (work_by machine command) before) None ≡ Some board → (unwrap_or before None ≡ Some board → rest ≡ true) → (test command || rest) ≡ true
started-step machine board test of_start (WorkStarted m b) before rest at there = by (same m machine) refl at
  where
    by : (here : Bool) → same m machine ≡ here → unwrap_or (option_or (if here then Some (Some b) else None) before) None ≡ Some board
        → (test (WorkStarted m b) || rest) ≡ true
    by true here at =
        let one : b ≡ board = cc in
        or_left _ rest (ap (λ x. test (WorkStarted x b)) (same-true m machine here) ∙ ap (λ x. test (WorkStarted machine x)) one ∙ of_start)
    by false here at = or_right _ rest (there at)
started-step machine board test of_start (WorkCompleted m b) before rest at there = by (same m machine) at
  where
    by : (here : Bool) → unwrap_or (option_or (if here then Some None else None) before) None ≡ Some board → (test (WorkCompleted m b) || rest) ≡ true
    by true at = cc
    by false at = or_right _ rest (there at)
started-step machine board test of_start _ before rest at there = or_right _ rest (there at)

started-by : (H : History) (machine board : Name) (test : Command → Bool) → test (WorkStarted machine board) ≡ true → in_work_on H machine ≡ Some board
    → list_any (λ (e : Entry). test e.stamped.command) H ≡ true
started-by [] machine board test of_start at = cc
started-by (e ∷ H) machine board test of_start at =
    started-step machine board test of_start e.stamped.command (latest (λ e. work_by machine e.stamped.command) H) _ at (started-by H machine board test of_start)

pub somewhere-in_work : (H : History) (board : Name) → (machine : Name) × (in_work_on H machine ≡ Some board) → is_in_work H board ≡ true
somewhere-in_work H board (machine, at) = started-by H machine board (is_in_work_where_started H board) of_start at
  where
    of_start : is_in_work_where_started H board (WorkStarted machine board) ≡ true
    of_start = ap (λ o. same board board && option_map_or (same board) o false) at ∙ ap (λ b. b && b) (same-refl board)

-- ---- loaded slots

has-given : {X : Type 0} (read : X → Option Name) (xs : List X) (name : Name) → list_any (λ x. option_map_or (same name) (read x) false) xs ≡ has (filter_map read xs) name
has-given read [] name = refl
has-given read (x ∷ xs) name = by (read x) (has-given read xs name)
  where
    by : (said : Option Name) → list_any (λ x. option_map_or (same name) (read x) false) xs ≡ has (filter_map read xs) name
        → (option_map_or (same name) said false || list_any (λ x. option_map_or (same name) (read x) false) xs) ≡ has (cons_option said (filter_map read xs)) name
    by None rest = rest
    by (Some y) rest = ap (λ b. same name y || b) rest

pub tape-loaded : (H : History) (machine slot : Name) → tape_of H machine slot ≢ [] → Contains (loaded_slots H machine) slot
tape-loaded H machine slot some =
    Contains-from_any same-true slot (loaded_slots H machine) (
    has-set _ slot ∙ sym (has-given (λ (e : Entry). slot_by machine e.stamped.command) H slot)
    ∙ loaded-by H machine slot (λ command. option_map_or (same slot) (slot_by machine command) false) of_load (by (tape_of H machine slot) refl))
  where
    of_load : (r : Name) → option_map_or (same slot) (slot_by machine (MaterialsLoaded machine slot r)) false ≡ true
    of_load r = ap (λ b. option_map_or (same slot) (if b then Some slot else None) false) (same-refl machine) ∙ same-refl slot

    by : (tape : List Name) → tape_of H machine slot ≡ tape → is_none (first (tape_of H machine slot)) ≡ false
    by [] is = absurd (some is)
    by (x ∷ xs) is = ap (λ l. is_none (first l)) is

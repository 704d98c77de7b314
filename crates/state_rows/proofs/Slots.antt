-- The live reels of a slot, from a machine's live reels.
use Rattle.desk_types.proofs.Common.{[], ◌&&◌, ◌+◌, ◌||◌, ◌∙◌, ◌∷◌, ◌≡◌, and_parts, ap, Bool, command_refusal}
use Rattle.desk_types.proofs.Common.{cons_option, defines_on, enumerate_from, false, filter_map}
use Rattle.desk_types.proofs.Common.{filter_map-append, flat_map, has_sheet, History, if◌then◌else◌, is_none}
use Rattle.desk_types.proofs.Common.{IsJudged, left_of, List, list_any-append, list_any-from_Contains}
use Rattle.desk_types.proofs.Common.{live_on, loaded_slots, map, mount_of, Name, nat_list_eq_equiv, nat_lt}
use Rattle.desk_types.proofs.Common.{None, Option, option_and_then, option_or, or_parts, refl, row_in, row_on}
use Rattle.desk_types.proofs.Common.{same, same-sym, same-true, selected_on, sheet_by, sheet_of, slot_mounts}
use Rattle.desk_types.proofs.Common.{Some, sym, tape_after, tape_of, tape_with, true, unwrap_or, ℕ}
use Rattle.desk_laws.proofs.Common.{Command, MaterialsLoaded, MaterialsSpliced, MaterialsUnloaded}
use Rattle.desk_laws.proofs.Common.{SheetDefined, SheetRow, Two}
use Rattle.desk_laws.proofs.{Accepted.mountable, Accepted.next-accepted, Lookups.tape-loaded, Mounts.has}
use Rattle.desk_laws.proofs.{Mounts.has-live_on}
use Rattle.state_rows.specs.EditsOf.{reel_on_slot, reels_on}

-- ---- machines without a sheet

not-defined : (product machine : Name) (command : Command) → defines_on machine command ≡ false → sheet_by product machine command ≡ None
not-defined product machine (SheetDefined p m rows) is = by (same p product) (same m machine) is
  where
    by : (a b : Bool) → b ≡ false → (if (a && b) then Some rows else None) ≡ None
    by true true is = cc
    by true false is = refl
    by false b is = refl
not-defined product machine _ is = refl

no-sheet : (H : History) (product machine : Name) → has_sheet H machine ≡ false → sheet_of H product machine ≡ None
no-sheet [] product machine none = refl
no-sheet (e ∷ H) product machine none =
    let both = or_parts (defines_on machine e.stamped.command) (has_sheet H machine) none in
    ap (λ o. option_or o (sheet_of H product machine)) (not-defined product machine e.stamped.command both.0) ∙ no-sheet H product machine both.1

no-row : (H : History) (machine slot : Name) → has_sheet H machine ≡ false → is_none (row_on H machine slot) ≡ true
no-row H machine slot none = by (selected_on H machine)
  where
    by : (product : Option Name) → is_none (option_and_then (λ rows. row_in rows slot) (option_and_then (λ p. sheet_of H p machine) product)) ≡ true
    by None = refl
    by (Some p) = ap (λ (o : Option (List SheetRow)). is_none (option_and_then (λ rows. row_in rows slot) o)) (no-sheet H p machine none)

bare-step : (H : History) (minute : ℕ) (machine slot : Name) (command : Command) → command_refusal Two H minute command ≡ None → has_sheet H machine ≡ false
    → tape_after machine slot command [] ≡ []
unfolding command_refusal
bare-step H minute machine slot (MaterialsLoaded m s r) accepted none = by (same m machine && same s slot) refl
  where
    by : (b : Bool) → (same m machine && same s slot) ≡ b → (if b then r ∷ [] else []) ≡ []
    by true here =
        let bare = no-row H machine s none in
        let row = sym (ap (λ x. is_none (row_on H x s)) (same-true m machine (and_parts _ _ here).0)) ∙ (mountable H minute m s r _ accepted).on_sheet in
        cc
    by false here = refl
bare-step H minute machine slot (MaterialsSpliced m s r) accepted none = by (same m machine && same s slot)
  where
    by : (b : Bool) → (if b then tape_with [] r else []) ≡ []
    by true = refl
    by false = refl
bare-step H minute machine slot (MaterialsUnloaded m s) accepted none = by (same m machine && same s slot)
  where
    by : (b : Bool) → (if◌then◌else◌ {A = List Name} b [] []) ≡ []
    by true = refl
    by false = refl
bare-step H minute machine slot _ accepted none = refl

pub no-tape : (H : History) (machine slot : Name) → IsJudged Two H → has_sheet H machine ≡ false → tape_of H machine slot ≡ []
unfolding tape_of
no-tape [] machine slot judged none = refl
no-tape (e ∷ H) machine slot (next, judged) none =
    let both = or_parts (defines_on machine e.stamped.command) (has_sheet H machine) none in
    ap (tape_after machine slot e.stamped.command) (no-tape H machine slot judged both.1)
    ∙ bare-step H e.effective machine slot e.stamped.command (next-accepted H e next) both.1

-- ---- the reels of a slot

of-slot : (H : History) (slot s : Name) (reels : List Name) (n : ℕ)
    → filter_map (reel_on_slot slot) (map (mount_of H s) (enumerate_from n reels)) ≡ if same s slot then reels else []
of-slot H slot s [] n = by (same s slot)
  where
    by : (b : Bool) → [] ≡ (if◌then◌else◌ {A = List Name} b [] [])
    by true = refl
    by false = refl
of-slot H slot s (r ∷ rs) n = by (same s slot) (of-slot H slot s rs (n + 1))
  where
    by : (b : Bool) → filter_map (reel_on_slot slot) (map (mount_of H s) (enumerate_from (n + 1) rs)) ≡ (if b then rs else [])
        → cons_option (if b then Some r else None) (filter_map (reel_on_slot slot) (map (mount_of H s) (enumerate_from (n + 1) rs))) ≡ (if b then r ∷ rs else [])
    by true rest = ap (λ l. r ∷ l) rest
    by false rest = rest

of-slots : (H : History) (machine slot reel : Name) (slots : List Name)
    → has (filter_map (reel_on_slot slot) (flat_map (slot_mounts H machine) slots)) reel ≡ (has slots slot && has (live_on H machine slot) reel)
of-slots H machine slot reel [] = refl
of-slots H machine slot reel (s ∷ ss) =
    ap (λ l. has l reel) (filter_map-append (reel_on_slot slot) (slot_mounts H machine s) (flat_map (slot_mounts H machine) ss))
    ∙ list_any-append (same reel) (filter_map (reel_on_slot slot) (slot_mounts H machine s)) _
    ∙ ap (λ l. has l reel || has (filter_map (reel_on_slot slot) (flat_map (slot_mounts H machine) ss)) reel) (of-slot H slot s (live_on H machine s) 1)
    ∙ ap (λ b. has (if same s slot then live_on H machine s else []) reel || b) (of-slots H machine slot reel ss)
    ∙ by (same s slot) refl (same-sym s slot)
  where
    twice : (a b : Bool) → (a || (b && a)) ≡ a
    twice true b = refl
    twice false true = refl
    twice false false = refl

    by : (b : Bool) → same s slot ≡ b → b ≡ same slot s
        → (has (if b then live_on H machine s else []) reel || (has ss slot && has (live_on H machine slot) reel)) ≡ ((same slot s || has ss slot) && has (live_on H machine slot) reel)
    by true here flip =
        ap (λ x. has (live_on H machine x) reel || (has ss slot && has (live_on H machine slot) reel)) (same-true s slot here)
        ∙ twice (has (live_on H machine slot) reel) (has ss slot)
        ∙ ap (λ c. (c || has ss slot) && has (live_on H machine slot) reel) flip
    by false away flip = ap (λ c. (c || has ss slot) && has (live_on H machine slot) reel) flip

-- A machine's live reels determine those of each slot.
pub reels_on-live : (H : History) (machine slot reel : Name) → IsJudged Two H → has (reels_on H machine slot) reel ≡ has (live_on H machine slot) reel
reels_on-live H machine slot reel judged = by (has_sheet H machine) refl
  where
    there : (b : Bool) → has (live_on H machine slot) reel ≡ b → (has (loaded_slots H machine) slot && b) ≡ b
    there true live =
        let on = (and_parts (nat_lt 0 (left_of H reel)) (has (tape_of H machine slot) reel) (sym (has-live_on H machine slot reel) ∙ live)).1 in
        ap (λ c. c && true) (
        list_any-from_Contains nat_list_eq_equiv slot (loaded_slots H machine)
        (tape-loaded H machine slot (λ none. let off = ap (λ l. has l reel) none in cc)))
    there false live = off (has (loaded_slots H machine) slot)
      where
        off : (c : Bool) → (c && false) ≡ false
        off true = refl
        off false = refl

    by : (b : Bool) → has_sheet H machine ≡ b
        → has (filter_map (reel_on_slot slot) (unwrap_or (if b then Some (flat_map (slot_mounts H machine) (loaded_slots H machine)) else None) [])) reel ≡ has (live_on H machine slot) reel
    by true sheet = of-slots H machine slot reel (loaded_slots H machine) ∙ there (has (live_on H machine slot) reel) refl
    by false none =
        sym (has-live_on H machine slot reel ∙ ap (λ tape. nat_lt 0 (left_of H reel) && has tape reel) (no-tape H machine slot judged none) ∙ off (nat_lt 0 (left_of H reel)))
      where
        off : (c : Bool) → (c && false) ≡ false
        off true = refl
        off false = refl

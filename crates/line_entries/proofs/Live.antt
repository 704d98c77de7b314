-- A reel that a refused load verifies is live on the slot.
use Rattle.desk_types.proofs.Common.{[], ◌&&◌, ◌+◌, ◌∙◌, ◌∷◌, ◌≡◌, ◌||◌, and_parts, Bool, enumerate_from}
use Rattle.desk_types.proofs.Common.{false, flat_map, History, if◌then◌else◌}
use Rattle.desk_types.proofs.Common.{List, list_any, live_on, map, mount_of, Name, None, refl, same}
use Rattle.desk_types.proofs.Common.{same-true, Some, subst, sym, true, unwrap_or, ℕ}
use Rattle.desk_types.specs.declared.view.Mount.{Mount}
use Rattle.desk_types.specs.View.{has_sheet, loaded_slots, slot_mounts}
use Rattle.desk_answers.specs.declared.answer.Answer.{Answer}
use Rattle.line_entries.specs.Refusal.{handling, has_mount, is_live_at, mounting, says_mounted}
use Rattle.std.proofs.lemmas.List.Folds.{list_any-append}

either : (a b : Bool) (P : Type 0) → (a || b) ≡ true → (a ≡ true → P) → (b ≡ true → P) → P
either true b P is one other = one refl
either false b P is one other = other is

-- A mount of slot s that is this reel on this slot: s is the slot, and has the reel.
on_one : (H : History) (s slot reel : Name) (n : ℕ) (live : List Name)
    → has_mount (map (mount_of H s) (enumerate_from n live)) slot reel ≡ true
    → (same s slot ≡ true) × (list_any (λ r. same r reel) live ≡ true)
on_one H s slot reel n [] is = cc
on_one H s slot reel n (r ∷ live) is = either (same s slot && same r reel)
    (has_mount (map (mount_of H s) (enumerate_from (n + 1) live)) slot reel)
    ((same s slot ≡ true) × ((same r reel || list_any (λ r. same r reel) live) ≡ true)) is
    (λ here. let both = and_parts (same s slot) (same r reel) here in (both.0, rw both.1 refl))
    (λ there. let rest = on_one H s slot reel (n + 1) live there in (rest.0, later (same r reel) _ rest.1))
  where
    later : (a b : Bool) → b ≡ true → (a || b) ≡ true
    later true b is = refl
    later false b is = is

on_some : (H : History) (machine slot reel : Name) (slots : List Name)
    → has_mount (flat_map (slot_mounts H machine) slots) slot reel ≡ true
    → list_any (λ r. same r reel) (live_on H machine slot) ≡ true
on_some H machine slot reel [] is = cc
on_some H machine slot reel (s ∷ slots) is = either (has_mount (slot_mounts H machine s) slot reel)
    (has_mount (flat_map (slot_mounts H machine) slots) slot reel)
    (list_any (λ r. same r reel) (live_on H machine slot) ≡ true)
    (sym (list_any-append
    (λ (m : Mount). same m.slot slot && same m.reel reel) (slot_mounts H machine s)
    (flat_map (slot_mounts H machine) slots)) ∙ is)
    (λ here. let both = on_one H s slot reel 1 (live_on H machine s) here in
    subst (λ x. list_any (λ r. same r reel) (live_on H machine x) ≡ true) (same-true s slot both.0) both.1)
    (λ there. on_some H machine slot reel slots there)

live_so : (H : History) (machine slot reel : Name) → is_live_at H machine slot reel ≡ true
    → list_any (λ r. same r reel) (live_on H machine slot) ≡ true
live_so H machine slot reel is = by (has_sheet H machine) is
  where
    by : (b : Bool) → has_mount
        (unwrap_or (if b then Some (flat_map (slot_mounts H machine) (loaded_slots H machine)) else None) []) slot
        reel ≡ true
        → list_any (λ r. same r reel) (live_on H machine slot) ≡ true
    by true is = on_some H machine slot reel (loaded_slots H machine) is
    by false is = cc

pub verified : (H : History) (answer : Answer) (machine slot reel word : Name)
    → mounting H answer machine slot reel word ≡ None
    → list_any (λ r. same r reel) (live_on H machine slot) ≡ true
verified H answer machine slot reel word none = live_so H machine slot reel
    (passed (says_mounted answer) (is_live_at H machine slot reel) none)
  where
    passed : (a b : Bool) → (if a && b then None else Some (handling H machine slot (Some reel) word)) ≡ None → b ≡ true
    passed true true is = refl
    passed true false is = cc
    passed false b is = cc

-- Slots and places after one command, for any tape.
use Rattle.desk_types.proofs.Common.{[], ◌&&◌, ◌++◌, ◌||◌, ◌∙◌, ◌∷◌, ◌≡◌, and_parts, ap, Bool, false}
use Rattle.desk_types.proofs.Common.{if◌then◌else◌, List, list_any-append, Name, None, Option, or-false, refl}
use Rattle.desk_types.proofs.Common.{same, same-sym, same-true, Some, sym, tape_with, true}
use Rattle.desk_laws.{proofs.Mounts.has, specs.Place.is_at}

cleared : (machine slot : Name) (place : Option (Name × Name)) → is_at machine slot (if is_at machine slot place then None else place) ≡ false
cleared machine slot None = refl
cleared machine slot (Some q) = by (same q.0 machine && same q.1 slot) refl
  where
    by : (b : Bool) → (same q.0 machine && same q.1 slot) ≡ b → is_at machine slot (if b then None else Some q) ≡ false
    by true here = refl
    by false here = here

uncleared : (machine slot m s : Name) (place : Option (Name × Name)) → (same m machine && same s slot) ≡ false
    → is_at machine slot (if is_at m s place then None else place) ≡ is_at machine slot place
uncleared machine slot m s None other = refl
uncleared machine slot m s (Some q) other = by (same q.0 m && same q.1 s) refl
  where
    by : (b : Bool) → (same q.0 m && same q.1 s) ≡ b → is_at machine slot (if b then None else Some q) ≡ (same q.0 machine && same q.1 slot)
    by true there =
        sym (ap (λ x. same x machine && same q.1 slot) (same-true q.0 m (and_parts _ _ there).0) ∙ ap (λ x. same m machine && same x slot) (same-true q.1 s (and_parts _ _ there).1) ∙ other)
    by false there = refl

cleared-same : (machine slot m s : Name) (place : Option (Name × Name)) → (same m machine && same s slot) ≡ true
    → is_at machine slot (if is_at m s place then None else place) ≡ false
cleared-same machine slot m s place here =
    ap (λ x. is_at machine slot (if is_at x s place then None else place)) (same-true m machine (and_parts _ _ here).0)
    ∙ ap (λ x. is_at machine slot (if is_at machine x place then None else place)) (same-true s slot (and_parts _ _ here).1)
    ∙ cleared machine slot place

one : (r reel : Name) → has (r ∷ []) reel ≡ same r reel
one r reel = or-false (same reel r) ∙ same-sym reel r

-- The reel is on the tape exactly if its place is the slot.
abbrev pub IsOn : Name → Name → Name → List Name → Option (Name × Name) → Type 0
IsOn machine slot reel tape place = has tape reel ≡ is_at machine slot place

pub on-load : (machine slot reel m s r : Name) (tape : List Name) (place : Option (Name × Name)) → IsOn machine slot reel tape place
    → (same r reel ≡ true → has tape reel ≡ false)
    → IsOn machine slot reel (if same m machine && same s slot then r ∷ [] else tape) (if same r reel then Some (m, s) else (if is_at m s place then None else place))
on-load machine slot reel m s r tape place on away = by (same m machine && same s slot) (same r reel) refl refl
  where
    by : (b c : Bool) → (same m machine && same s slot) ≡ b → same r reel ≡ c
        → has (if b then r ∷ [] else tape) reel ≡ is_at machine slot (if◌then◌else◌ {A = Option (Name × Name)} c (Some (m, s)) (if is_at m s place then None else place))
    by true true here is = one r reel ∙ is ∙ sym here
    by true false here is = one r reel ∙ is ∙ sym (cleared-same machine slot m s place here)
    by false true here is = away is ∙ sym here
    by false false here is = on ∙ sym (uncleared machine slot m s place here)

pub on-splice : (machine slot reel m s r : Name) (tape : List Name) (place : Option (Name × Name)) → IsOn machine slot reel tape place
    → ((same m machine && same s slot) ≡ true → tape_with tape r ≡ tape ++ r ∷ []) → (same r reel ≡ true → has tape reel ≡ false)
    → IsOn machine slot reel (if same m machine && same s slot then tape_with tape r else tape) (if same r reel then Some (m, s) else place)
on-splice machine slot reel m s r tape place on joined away = by (same m machine && same s slot) (same r reel) refl refl
  where
    ends : has (tape ++ r ∷ []) reel ≡ (has tape reel || same r reel)
    ends = list_any-append (same reel) tape (r ∷ []) ∙ ap (λ b. has tape reel || b) (one r reel)

    by : (b c : Bool) → (same m machine && same s slot) ≡ b → same r reel ≡ c
        → has (if b then tape_with tape r else tape) reel ≡ is_at machine slot (if◌then◌else◌ {A = Option (Name × Name)} c (Some (m, s)) place)
    by true true here is = ap (λ l. has l reel) (joined here) ∙ ends ∙ ap (λ b. b || same r reel) (away is) ∙ is ∙ sym here
    by true false here is = ap (λ l. has l reel) (joined here) ∙ ends ∙ ap (λ b. has tape reel || b) is ∙ or-false (has tape reel) ∙ on
    by false true here is = away is ∙ sym here
    by false false here is = on

pub on-unload : (machine slot reel m s : Name) (tape : List Name) (place : Option (Name × Name)) → IsOn machine slot reel tape place
    → IsOn machine slot reel (if same m machine && same s slot then [] else tape) (if is_at m s place then None else place)
on-unload machine slot reel m s tape place on = by (same m machine && same s slot) refl
  where
    by : (b : Bool) → (same m machine && same s slot) ≡ b → has (if b then [] else tape) reel ≡ is_at machine slot (if is_at m s place then None else place)
    by true here = sym (cleared-same machine slot m s place here)
    by false here = on ∙ sym (uncleared machine slot m s place here)

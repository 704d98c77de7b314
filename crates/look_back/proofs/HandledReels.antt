-- The effect of an entry on a reel.
use Rattle.desk_types.proofs.Common.{[], ◌++◌, ◌+◌, ◌<◌, ◌∙◌, ◌∷◌, ◌≡◌, ◌≤◌, ap, append_assoc, arith, Bool}
use Rattle.desk_types.proofs.Common.{cond, drop, drop-next, false, get_or, History, IsJudged, IsNext}
use Rattle.desk_types.proofs.Common.{le-max_right, length, List, Name, None, now_of, open_by, Option}
use Rattle.desk_types.proofs.Common.{option_map_or, receipt_by, receipt_of, refl, reverse, reverse-append}
use Rattle.desk_types.proofs.Common.{same, same-true, Some, sym, take, take-append-drop, take-next, true, ℕ}
use Rattle.desk_laws.proofs.Common.{Command, Entry, MaterialsLoaded, MaterialsSpliced, Receipt, ReelOpened}
use Rattle.desk_laws.proofs.Common.{ReelReceived, ReelSealed, Two}
use Rattle.desk_laws.{proofs.Accepted.received-once, proofs.Judgements.judged-prefix}
use Rattle.reels.specs.Reel.{IsReelOf}
use Rattle.look_back.{proofs.ReelsLater.reverse-last, specs.Life.is_bake}
use Rattle.reels.specs.declared.reel.Reel.{Reel}

is-true : {X : Type 0} (b : Bool) (x y : X) → cond b (Some x) None ≡ Some y → b ≡ true
is-true true x y is = refl
is-true false x y is = cc

out-of-bag : {P : Type 0} (b : Bool) → cond b (Some true) None ≡ Some false → P
out-of-bag true is = cc
out-of-bag false is = cc

pub sealed : (H : History) (e : Entry) (name : Name) (receipt : Receipt) → IsNext Two H e → receipt_of H name ≡ Some receipt → open_by name e.stamped.command ≡ Some false
    → is_bake e.stamped.command ≡ false → e.stamped.command ≡ ReelSealed name
sealed H e name receipt next was says no_bake = by e.stamped.command refl says no_bake
  where
    by : (command : Command) → e.stamped.command ≡ command → open_by name command ≡ Some false → is_bake command ≡ false → e.stamped.command ≡ ReelSealed name
    by (ReelReceived r part lot moisture quantity) is says no_bake =
        let new : Receipt = record { part = part; lot = lot; moisture = moisture; quantity = quantity; effective = e.effective } in
        let none = received-once H e name new next (ap (receipt_by name e.effective) is ∙ ap (λ b. cond b (Some new) None) (is-true (same r name) false false says)) in
        cc
    by (ReelSealed r) is says no_bake = is ∙ ap ReelSealed (same-true r name (is-true (same r name) false false says))
    by (ReelOpened r) is says no_bake = out-of-bag (same r name) says
    by (MaterialsLoaded m s r) is says no_bake = out-of-bag (same r name) says
    by (MaterialsSpliced m s r) is says no_bake = out-of-bag (same r name) says
    by _ is says no_bake = cc

some-if : {X : Type 0} (b : Bool) (x y : X) → cond b (Some x) None ≡ Some y → x ≡ y
some-if true x y is = cc
some-if false x y is = cc

pub received : (name : Name) (minute : ℕ) (command : Command) (receipt : Receipt) → receipt_by name minute command ≡ Some receipt
    → command ≡ ReelReceived name receipt.part receipt.lot receipt.moisture receipt.quantity
received name minute (ReelReceived r part lot moisture quantity) receipt is =
    let new : Receipt = record { part = part; lot = lot; moisture = moisture; quantity = quantity; effective = minute } in
    let it = some-if (same r name) new receipt is in
    ap (λ n. ReelReceived n part lot moisture quantity) (same-true r name (is-true (same r name) new receipt is))
    ∙ ap (λ (x : Receipt). ReelReceived name x.part x.lot x.moisture x.quantity) it
received name minute _ receipt is = cc

pub so-far : (entries : List Entry) (i : ℕ) (e : Entry) → i < length entries → e ≡ get_or entries i e → reverse (take (i + 1) entries) ≡ e ∷ reverse (take i entries)
so-far entries i e inside is = reverse-last (take (i + 1) entries) (take i entries) e (take-next entries i e inside is)

pub split-at : {X : Type 0} (xs : List X) (i : ℕ) (x : X) → i < length xs → x ≡ get_or xs i x → reverse xs ≡ reverse (drop (i + 1) xs) ++ x ∷ reverse (take i xs)
split-at xs i x inside is =
    ap reverse split ∙ reverse-append (take i xs) (x ∷ drop (i + 1) xs)
    ∙ ap (λ later. later ++ reverse (take i xs)) (reverse-append (x ∷ []) (drop (i + 1) xs))
    ∙ append_assoc (reverse (drop (i + 1) xs)) (x ∷ []) (reverse (take i xs))
  where
    split : xs ≡ take i xs ++ x ∷ drop (i + 1) xs
    split = sym (take-append-drop i xs) ∙ ap (λ rest. take i xs ++ rest) (drop-next xs i x inside is)

pub judged-next : (entries : List Entry) (i : ℕ) (e : Entry) → i < length entries → e ≡ get_or entries i e → IsJudged Two (reverse entries) → IsJudged Two (e ∷ reverse (take i entries))
judged-next entries i e inside is judged =
    judged-prefix (e ∷ reverse (take i entries)) (reverse entries) (reverse (drop (i + 1) entries), split-at entries i e inside is) judged

pub by-then : (H : History) (e : Entry) (name : Name) (found : Option Reel) → IsJudged Two (e ∷ H) → IsReelOf H name found → (reel : Reel) → found ≡ Some reel → reel.last ≤ e.effective
by-then H e name None judged is_reel reel is = cc
by-then H e name (Some found) judged is_reel reel is = omega (arith, is_reel.1, judged.0.effective, le-max_right e.stamped.minute (now_of H), ap (λ (o : Option Reel). option_map_or (λ (r : Reel). r.last) o 0) is)

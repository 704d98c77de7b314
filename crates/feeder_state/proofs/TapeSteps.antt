-- The live reels of slots, entry by entry.
use Rattle.desk_types.proofs.Common.{[], ◌&&◌, ◌+◌, ◌<◌, ◌==◌, ◌||◌, ◌∙◌, ◌∷◌, ◌≡◌, AllByRecursion, and-false}
use Rattle.desk_types.proofs.Common.{ap, arith, Bool, command_refusal, cond, eqb-true, false, found_by}
use Rattle.desk_types.proofs.Common.{History, if◌then◌else◌, IsJudged, left_of, List, list_any}
use Rattle.desk_types.proofs.Common.{list_any-append, live_on, lt-ltb, ltb-false, ltb-true, map, Name, nat_lt}
use Rattle.desk_types.proofs.Common.{None, not, Option, picks_of, pieces_picked, receipt_by, refl, same}
use Rattle.desk_types.proofs.Common.{same-refl, same-true, Some, sum_by-cons, sym, take_of, takes_by}
use Rattle.desk_types.proofs.Common.{tape_after, tape_with, true, ℕ}
use Rattle.desk_laws.proofs.Common.{Command, CountsTaken, Entry, MaterialsInstalled, MaterialsLoaded}
use Rattle.desk_laws.proofs.Common.{MaterialsScrapped, MaterialsSpliced, MaterialsUnloaded, Pick, Receipt}
use Rattle.desk_laws.proofs.Common.{Take, Two}
use Rattle.desk_laws.proofs.{Accepted.mountable, Accepted.next-accepted, Accepted.received-once}
use Rattle.desk_laws.proofs.{Balance.left-next, Balance.unreceived-empty, Lives.live-next, Mounts.has}
use Rattle.desk_laws.proofs.{PicksOfOneSlot.live-pieces, PicksOfOneSlot.picks-alone, Tapes.not-zero}
use Rattle.desk_laws.specs.Slots.{comes_off, IsOnItsSlot}
use Rattle.feeder_state.specs.{Noted.IsNoted, Noted.may_take, Spending.is_spent_by}
use Rattle.std.specs.List.{filter}

-- ---- filters

filter-on : (p q : Name → Bool) (reels : List Name) → ((r : Name) → has reels r ≡ true → p r ≡ q r) → filter p reels ≡ filter q reels
filter-on p q [] agree = refl
filter-on p q (x ∷ xs) agree =
    ap (λ b. cond b (x ∷ filter p xs) (filter p xs)) (agree x (ap (λ b. b || has xs x) (same-refl x)))
    ∙ ap (λ l. cond (q x) (x ∷ l) l) (filter-on p q xs (λ r there. agree r (later (same r x) (has xs r) there)))
  where
    later : (a b : Bool) → b ≡ true → (a || b) ≡ true
    later true b is = refl
    later false b is = is

pub all-kept : (p : Name → Bool) (reels : List Name) → ((r : Name) → has reels r ≡ true → p r ≡ true) → filter p reels ≡ reels
all-kept p reels passes = filter-on p (λ r. true) reels passes ∙ all reels
  where
    all : (xs : List Name) → filter (λ r. true) xs ≡ xs
    all [] = refl
    all (x ∷ xs) = ap (λ l. x ∷ l) (all xs)

-- ---- entries that take pieces

pieces_picked-there : (H : History) (machine slot reel : Name) (picks : List Pick) → AllByRecursion (IsOnItsSlot (live_on H)) picks → has (live_on H machine slot) reel ≡ true
    → 0 < pieces_picked picks reel → list_any (λ (p : Pick). comes_off p.purpose machine slot && same p.reel reel) picks ≡ true
pieces_picked-there H machine slot reel [] alone live some = absurd (omega (arith, some))
pieces_picked-there H machine slot reel (p ∷ ps) alone live some =
    by (same p.reel reel) refl (sum_by-cons (λ (q : Pick). cond (same q.reel reel) q.quantity 0) p ps) (pieces_picked-there H machine slot reel ps alone.1 live)
  where
    by : (b : Bool) → same p.reel reel ≡ b → pieces_picked (p ∷ ps) reel ≡ cond b p.quantity 0 + pieces_picked ps reel
        → (0 < pieces_picked ps reel → list_any (λ (q : Pick). comes_off q.purpose machine slot && same q.reel reel) ps ≡ true)
        → ((comes_off p.purpose machine slot && b) || list_any (λ (q : Pick). comes_off q.purpose machine slot && same q.reel reel) ps) ≡ true
    by true one all rest =
        let off = alone.0 machine slot (ap (has (live_on H machine slot)) (same-true p.reel reel one) ∙ live) in
        ap (λ b. (b && true) || list_any (λ (q : Pick). comes_off q.purpose machine slot && same q.reel reel) ps) off
    by false one all rest =
        ap (λ b. b || list_any (λ (q : Pick). comes_off q.purpose machine slot && same q.reel reel) ps) (and-false (comes_off p.purpose machine slot)) ∙ rest (omega (arith, all, some))

spent-map : (H : History) (minute : ℕ) (left : Name → ℕ) (machine slot reel : Name) (picks : List Pick)
    → list_any (is_spent_by left machine slot reel) (map (take_of H minute) picks) ≡ (list_any (λ (p : Pick). comes_off p.purpose machine slot && same p.reel reel) picks && (left reel == 0))
spent-map H minute left machine slot reel [] = refl
spent-map H minute left machine slot reel (p ∷ ps) =
    ap (λ b. ((comes_off p.purpose machine slot && same p.reel reel) && (left reel == 0)) || b) (spent-map H minute left machine slot reel ps)
    ∙ either (comes_off p.purpose machine slot && same p.reel reel) (list_any (λ (q : Pick). comes_off q.purpose machine slot && same q.reel reel) ps) (left reel == 0)
  where
    either : (a b z : Bool) → ((a && z) || (b && z)) ≡ ((a || b) && z)
    either true true true = refl
    either true true false = refl
    either true false true = refl
    either true false false = refl
    either false b z = refl

receives-none : (name : Name) (minute : ℕ) (command : Command) → may_take command ≡ true → receipt_by name minute command ≡ None
receives-none name minute (MaterialsInstalled machine board designators) is = refl
receives-none name minute (MaterialsScrapped machine slot quantity) is = refl
receives-none name minute (CountsTaken counts) is = refl
receives-none name minute _ is = cc

taking-stays : (machine slot : Name) (command : Command) (reels : List Name) → may_take command ≡ true → tape_after machine slot command reels ≡ reels
taking-stays machine slot (MaterialsInstalled m board designators) reels is = refl
taking-stays machine slot (MaterialsScrapped m s quantity) reels is = refl
taking-stays machine slot (CountsTaken counts) reels is = refl
taking-stays machine slot _ reels is = cc

pub zero-is : (n : ℕ) (b : Bool) → nat_lt 0 n ≡ b → (n == 0) ≡ not b
zero-is n true is = by (n == 0) refl
  where
    by : (c : Bool) → (n == 0) ≡ c → (n == 0) ≡ false
    by false none = none
    by true none = let more = ltb-true 0 n is in let empty : n ≡ 0 = eqb-true n 0 none in absurd (omega (arith, more, empty))
zero-is n false is = let few = ltb-false 0 n is in let none : n ≡ 0 = omega (arith, few) in ap (λ m. m == 0) none

pub lives-taken : (H : History) (e : Entry) (command : Command) (at : ℕ) (takes : List Take) (left : Name → ℕ) (machine slot : Name) → IsNoted H e command at takes
    → may_take command ≡ true → ((r : Name) → left r ≡ left_of (e ∷ H) r)
    → filter (λ r. not (list_any (is_spent_by left machine slot r) takes)) (live_on H machine slot) ≡ live_on (e ∷ H) machine slot
lives-taken H e command at takes left machine slot noted may is =
    filter-on (λ r. not (list_any (is_spent_by left machine slot r) takes)) (λ r. nat_lt 0 (left_of (e ∷ H) r)) (live_on H machine slot) kept
    ∙ ap (filter (λ r. nat_lt 0 (left_of (e ∷ H) r))) (sym (taking-stays machine slot e.stamped.command (live_on H machine slot) takes_some))
    ∙ sym (live-next H e machine slot noted.judged)
  where
    takes_some : may_take e.stamped.command ≡ true
    takes_some = ap may_take noted.command_is ∙ may

    any : Name → Bool
    any r = list_any (λ (p : Pick). comes_off p.purpose machine slot && same p.reel r) (picks_of H e.stamped.command)

    spent : (r : Name) → list_any (is_spent_by left machine slot r) takes ≡ (any r && (left_of (e ∷ H) r == 0))
    spent r =
        ap (λ ts. list_any (is_spent_by left machine slot r) ts) (noted.takes_are ∙ ap (takes_by H at) (sym noted.command_is))
        ∙ spent-map H at left machine slot r (picks_of H e.stamped.command)
        ∙ ap (λ n. any r && (n == 0)) (is r)

    by : (r : Name) (b : Bool) → nat_lt 0 (left_of (e ∷ H) r) ≡ b → has (live_on H machine slot) r ≡ true → not (any r && not b) ≡ b
    by r true some live = ap not (and-false (any r))
    by r false few live =
        let none = ltb-false 0 (left_of (e ∷ H) r) few in
        let before = ltb-true 0 (left_of H r) (live-pieces H machine slot r live) in
        let next = left-next H e r noted.judged (receives-none r e.effective e.stamped.command takes_some) in
        ap (λ b. not (b && true)) (pieces_picked-there H machine slot r (picks_of H e.stamped.command) (picks-alone H e noted.judged) live (omega (arith, none, before, next)))

    kept : (r : Name) → has (live_on H machine slot) r ≡ true → not (list_any (is_spent_by left machine slot r) takes) ≡ nat_lt 0 (left_of (e ∷ H) r)
    kept r live =
        ap not (spent r)
        ∙ ap (λ b. not (any r && b)) (zero-is (left_of (e ∷ H) r) (nat_lt 0 (left_of (e ∷ H) r)) refl)
        ∙ by r (nat_lt 0 (left_of (e ∷ H) r)) refl live

none-spent : (left : Name → ℕ) (machine slot reel : Name) (takes : List Take) → (left reel == 0) ≡ false → list_any (is_spent_by left machine slot reel) takes ≡ false
none-spent left machine slot reel [] some = refl
none-spent left machine slot reel (t ∷ ts) some =
    ap (λ b. ((comes_off t.purpose machine slot && same t.reel reel) && b) || list_any (is_spent_by left machine slot reel) ts) some
    ∙ ap (λ b. b || list_any (is_spent_by left machine slot reel) ts) (and-false (comes_off t.purpose machine slot && same t.reel reel))
    ∙ none-spent left machine slot reel ts some

pub lives-stay : (H : History) (e : Entry) (command : Command) (at : ℕ) (takes : List Take) (left : Name → ℕ) (machine slot : Name) → IsNoted H e command at takes
    → may_take command ≡ true → ((r : Name) → left r ≡ left_of (e ∷ H) r) → ((r : Name) → nat_lt 0 (left_of H r) ≡ true → (left r == 0) ≡ false)
    → live_on H machine slot ≡ live_on (e ∷ H) machine slot
lives-stay H e command at takes left machine slot noted may is some =
    sym (all-kept (λ r. not (list_any (is_spent_by left machine slot r) takes)) (live_on H machine slot)
    (λ r live. ap not (none-spent left machine slot r takes (some r (live-pieces H machine slot r live)))))
    ∙ lives-taken H e command at takes left machine slot noted may is

-- ---- other entries

takes-none : (H : History) (name : Name) (command : Command) → may_take command ≡ false → (pieces_picked (picks_of H command) name ≡ 0) × (found_by (left_of H name) name command ≡ 0)
takes-none H name (MaterialsInstalled machine board designators) is = cc
takes-none H name (MaterialsScrapped machine slot quantity) is = cc
takes-none H name (CountsTaken counts) is = cc
takes-none H name _ is = (refl, refl)

some-stay : (H : History) (e : Entry) (name : Name) → IsJudged Two (e ∷ H) → may_take e.stamped.command ≡ false → nat_lt 0 (left_of H name) ≡ true → nat_lt 0 (left_of (e ∷ H) name) ≡ true
some-stay H e name (next, judged) is some = by (receipt_by name e.effective e.stamped.command) refl
  where
    by : (said : Option Receipt) → receipt_by name e.effective e.stamped.command ≡ said → nat_lt 0 (left_of (e ∷ H) name) ≡ true
    by None other =
        let left = left-next H e name (next, judged) other in
        let nothing = takes-none H name e.stamped.command is in
        let more = ltb-true 0 (left_of H name) some in
        lt-ltb 0 (left_of (e ∷ H) name) (omega (arith, left, nothing.0, nothing.1, more))
    by (Some receipt) says =
        let empty = unreceived-empty H name judged (received-once H e name receipt next says) in
        let more = ltb-true 0 (left_of H name) some in
        absurd (omega (arith, empty, more))

had-pieces : (H : History) (minute : ℕ) (machine slot : Name) (command : Command) → command_refusal Two H minute command ≡ None
    → (r : Name) → has (tape_after machine slot command (live_on H machine slot)) r ≡ true → nat_lt 0 (left_of H r) ≡ true
unfolding command_refusal
had-pieces H minute machine slot (MaterialsLoaded m s x) accepted r = by (same m machine && same s slot)
  where
    some : nat_lt 0 (left_of H x) ≡ true
    some = not-zero (left_of H x) (mountable H minute m s x _ accepted).some

    one : (b : Bool) → same r x ≡ b → (b || false) ≡ true → nat_lt 0 (left_of H r) ≡ true
    one true is there = ap (λ n. nat_lt 0 (left_of H n)) (same-true r x is) ∙ some
    one false is there = cc

    by : (b : Bool) → has (if b then x ∷ [] else live_on H machine slot) r ≡ true → nat_lt 0 (left_of H r) ≡ true
    by true there = one (same r x) refl there
    by false there = live-pieces H machine slot r there
had-pieces H minute machine slot (MaterialsSpliced m s x) accepted r = by (same m machine && same s slot)
  where
    some : nat_lt 0 (left_of H x) ≡ true
    some = not-zero (left_of H x) (mountable H minute m s x _ accepted).some

    one : (a b : Bool) → same r x ≡ b → (a || (b || false)) ≡ true → (a ≡ true → nat_lt 0 (left_of H r) ≡ true) → nat_lt 0 (left_of H r) ≡ true
    one true b is there live = live refl
    one false true is there live = ap (λ n. nat_lt 0 (left_of H n)) (same-true r x is) ∙ some
    one false false is there live = cc

    joined : (reels : List Name) → has (tape_with reels x) r ≡ true → (has reels r ≡ true → nat_lt 0 (left_of H r) ≡ true) → nat_lt 0 (left_of H r) ≡ true
    joined [] there live = live there
    joined (y ∷ ys) there live = one (has (y ∷ ys) r) (same r x) refl (sym (list_any-append (same r) (y ∷ ys) (x ∷ [])) ∙ there) live

    by : (b : Bool) → has (if b then tape_with (live_on H machine slot) x else live_on H machine slot) r ≡ true → nat_lt 0 (left_of H r) ≡ true
    by true there = joined (live_on H machine slot) there (live-pieces H machine slot r)
    by false there = live-pieces H machine slot r there
had-pieces H minute machine slot (MaterialsUnloaded m s) accepted r = by (same m machine && same s slot)
  where
    by : (b : Bool) → has (if b then [] else live_on H machine slot) r ≡ true → nat_lt 0 (left_of H r) ≡ true
    by true there = cc
    by false there = live-pieces H machine slot r there
had-pieces H minute machine slot _ accepted r = live-pieces H machine slot r

pub lives-kept : (H : History) (e : Entry) (machine slot : Name) → IsJudged Two (e ∷ H) → may_take e.stamped.command ≡ false
    → tape_after machine slot e.stamped.command (live_on H machine slot) ≡ live_on (e ∷ H) machine slot
lives-kept H e machine slot judged is =
    sym (all-kept (λ r. nat_lt 0 (left_of (e ∷ H) r)) (tape_after machine slot e.stamped.command (live_on H machine slot))
    (λ r there. some-stay H e r judged is (had-pieces H e.effective machine slot e.stamped.command (next-accepted H e judged.0) r there)))
    ∙ sym (live-next H e machine slot judged)

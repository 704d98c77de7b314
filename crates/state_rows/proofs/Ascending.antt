-- The live reels of a slot are in the order of their numbers, so the front has the least number.
use Rattle.desk_types.proofs.Common.{[], ⊤, ◌&&◌, ◌++◌, ◌<◌, ◌||◌, ◌∙◌, ◌∷◌, ◌≡◌, ◌≤◌, AllByRecursion, ap}
use Rattle.desk_types.proofs.Common.{arith, Bool, command_refusal, false, filter, History, if◌then◌else◌}
use Rattle.desk_types.proofs.Common.{is_mounted, IsJudged, last_put, left_of, length, List, live_on, Name}
use Rattle.desk_types.proofs.Common.{nat_lt, None, Option, option_map_or, option_or, or_left, or_right}
use Rattle.desk_types.proofs.Common.{put_by, refl, same, same-refl, same-sym, same-true, Some, subst, sym}
use Rattle.desk_types.proofs.Common.{tape_after, tape_of, tape_with, true, ℕ}
use Rattle.desk_laws.proofs.Common.{Command, MaterialsLoaded, MaterialsSpliced, MaterialsUnloaded, Two}
use Rattle.desk_laws.proofs.{Accepted.mountable, Accepted.next-accepted, Lives.live-next, Mounts.all-at}
use Rattle.desk_laws.proofs.{Mounts.has, Mounts.live-mounted}
use Rattle.desk_types.specs.declared.row.MountRow.{MountRow}

-- The number of the reel's last load or splice.
abbrev pub since_of : History → Name → ℕ
since_of H reel = option_map_or (λ (row : MountRow). row.since) (last_put H reel) 0

abbrev pub Ascends : (Name → ℕ) → List Name → Type 0
Ascends since [] = ⊤
Ascends since (r ∷ rs) = AllByRecursion (λ x. since r < since x) rs × Ascends since rs

all-filter : (P : Name → Type 0) (test : Name → Bool) (rs : List Name) → AllByRecursion P rs → AllByRecursion P (filter (λ r. test r) rs)
all-filter P test [] all = tt
all-filter P test (r ∷ rs) (first, all) = by (test r) (all-filter P test rs all)
  where
    by : (b : Bool) → AllByRecursion P (filter (λ x. test x) rs) → AllByRecursion P (if b then r ∷ filter (λ x. test x) rs else filter (λ x. test x) rs)
    by true rest = (first, rest)
    by false rest = rest

ascends-filter : (since : Name → ℕ) (test : Name → Bool) (rs : List Name) → Ascends since rs → Ascends since (filter (λ r. test r) rs)
ascends-filter since test [] up = tt
ascends-filter since test (r ∷ rs) (first, up) = by (test r) (all-filter (λ x. since r < since x) test rs first) (ascends-filter since test rs up)
  where
    by : (b : Bool) → AllByRecursion (λ x. since r < since x) (filter (λ x. test x) rs) → Ascends since (filter (λ x. test x) rs)
        → Ascends since (if b then r ∷ filter (λ x. test x) rs else filter (λ x. test x) rs)
    by true first rest = (first, rest)
    by false first rest = rest

all-end : (P : Name → Type 0) (rs : List Name) (r : Name) → AllByRecursion P rs → P r → AllByRecursion P (rs ++ r ∷ [])
all-end P [] r all last = (last, tt)
all-end P (x ∷ xs) r (first, all) last = (first, all-end P xs r all last)

ascends-end : (since : Name → ℕ) (rs : List Name) (r : Name) → Ascends since rs → AllByRecursion (λ x. since x < since r) rs → Ascends since (rs ++ r ∷ [])
ascends-end since [] r up less = (tt, tt)
ascends-end since (x ∷ xs) r (first, up) (here, less) = (all-end (λ y. since x < since y) xs r first here, ascends-end since xs r up less)

all-agree : (P Q : Name → Type 0) (rs : List Name) → ((r : Name) → has rs r ≡ true → P r → Q r) → AllByRecursion P rs → AllByRecursion Q rs
all-agree P Q [] agree all = tt
all-agree P Q (r ∷ rs) agree (first, all) =
    (agree r (or_left (same r r) (has rs r) (same-refl r)) first, all-agree P Q rs (λ x there. agree x (or_right (same x r) (has rs x) there)) all)

ascends-agree : (since other : Name → ℕ) (rs : List Name) → ((r : Name) → has rs r ≡ true → since r ≡ other r) → Ascends since rs → Ascends other rs
ascends-agree since other [] agree up = tt
ascends-agree since other (r ∷ rs) agree (first, up) = (
  all-agree (λ x. since r < since x) (λ x. other r < other x) rs
      (λ x there less. let a = agree r (or_left (same r r) (has rs r) (same-refl r)) in let b = agree x (or_right (same x r) (has rs x) there) in omega (arith, a, b, less)) first,
  ascends-agree since other rs (λ x there. agree x (or_right (same x r) (has rs x) there)) up,
)

-- ---- numbers

pub since-put : (reel : Name) (number : ℕ) (command : Command) (row : MountRow) → put_by reel number command ≡ Some row → row.since ≡ number
since-put reel number (MaterialsLoaded m s r) row is = by (same r reel) is
  where
    by : (b : Bool) → (if b then Some (record { since = number; machine = m; slot = s; reel = reel }) else None) ≡ Some row → row.since ≡ number
    by true is = sym (ap (λ o. option_map_or (λ (x : MountRow). x.since) o 0) is)
    by false is = cc
since-put reel number (MaterialsSpliced m s r) row is = by (same r reel) is
  where
    by : (b : Bool) → (if b then Some (record { since = number; machine = m; slot = s; reel = reel }) else None) ≡ Some row → row.since ≡ number
    by true is = sym (ap (λ o. option_map_or (λ (x : MountRow). x.since) o 0) is)
    by false is = cc
since-put reel number _ row is = cc

pub since-within : (H : History) (reel : Name) → IsJudged Two H → since_of H reel ≤ length H
since-within [] reel judged = omega arith
since-within (e ∷ H) reel (next, judged) = by (put_by reel e.number e.stamped.command) refl (since-within H reel judged)
  where
    by : (said : Option MountRow) → put_by reel e.number e.stamped.command ≡ said → since_of H reel ≤ length H
        → option_map_or (λ (row : MountRow). row.since) (option_or said (last_put H reel)) 0 ≤ length (e ∷ H)
    by None says before = omega (arith, before)
    by (Some row) says before = let is = since-put reel e.number e.stamped.command row says in let at = next.number in omega (arith, is, at)

-- ---- one entry more

unput : (H : History) (number : ℕ) (command : Command) (r : Name) → put_by r number command ≡ None → since_of H r ≡ option_map_or (λ (row : MountRow). row.since) (option_or (put_by r number command) (last_put H r)) 0
unput H number command r none = sym (ap (λ o. option_map_or (λ (row : MountRow). row.since) (option_or o (last_put H r)) 0) none)

other : (H : History) (machine slot r x : Name) → is_mounted H r ≡ false → has (live_on H machine slot) x ≡ true → same r x ≡ false
other H machine slot r x rests live = by (same r x) refl
  where
    by : (b : Bool) → same r x ≡ b → same r x ≡ false
    by true is = let mounted = ap (is_mounted H) (same-true r x is) ∙ live-mounted H machine slot x live in cc
    by false is = is

step : (H : History) (minute : ℕ) (number : ℕ) (machine slot : Name) (command : Command) → IsJudged Two H → command_refusal Two H minute command ≡ None → length H < number
    → Ascends (since_of H) (live_on H machine slot)
    → Ascends (λ r. option_map_or (λ (row : MountRow). row.since) (option_or (put_by r number command) (last_put H r)) 0) (tape_after machine slot command (live_on H machine slot))
unfolding command_refusal
step H minute number machine slot (MaterialsLoaded m s r) judged accepted later up = by (same m machine && same s slot)
  where
    rests : is_mounted H r ≡ false
    rests = (mountable H minute m s r _ accepted).not_mounted

    by : (b : Bool) → Ascends (λ x. option_map_or (λ (row : MountRow). row.since) (option_or (put_by x number (MaterialsLoaded m s r)) (last_put H x)) 0) (if b then r ∷ [] else live_on H machine slot)
    by true = (tt, tt)
    by false =
        ascends-agree (since_of H) _ (live_on H machine slot)
        (λ x live. unput H number (MaterialsLoaded m s r) x (ap (λ b. if b then Some (record { since = number; machine = m; slot = s; reel = x }) else None) (other H machine slot r x rests live))) up
step H minute number machine slot (MaterialsSpliced m s r) judged accepted later up = by (same m machine && same s slot)
  where
    rests : is_mounted H r ≡ false
    rests = (mountable H minute m s r _ accepted).not_mounted

    after : Name → ℕ
    after x = option_map_or (λ (row : MountRow). row.since) (option_or (put_by x number (MaterialsSpliced m s r)) (last_put H x)) 0

    kept : (x : Name) → has (live_on H machine slot) x ≡ true → since_of H x ≡ after x
    kept x live = unput H number (MaterialsSpliced m s r) x (ap (λ b. if b then Some (record { since = number; machine = m; slot = s; reel = x }) else None) (other H machine slot r x rests live))

    now : after r ≡ number
    now = ap (λ b. option_map_or (λ (row : MountRow). row.since) (option_or (if b then Some (record { since = number; machine = m; slot = s; reel = r }) else None) (last_put H r)) 0) (same-refl r)

    joined : (rs : List Name) → Ascends after rs → AllByRecursion (λ x. after x < after r) rs → Ascends after (tape_with rs r)
    joined [] up less = tt
    joined (x ∷ xs) up less = ascends-end after (x ∷ xs) r up less

    every : (rs : List Name) → AllByRecursion (λ (x : Name). ⊤) rs
    every [] = tt
    every (x ∷ xs) = (tt, every xs)

    by : (b : Bool) → Ascends after (if b then tape_with (live_on H machine slot) r else live_on H machine slot)
    by true =
        joined (live_on H machine slot) (ascends-agree (since_of H) after (live_on H machine slot) kept up)
        (all-agree (λ x. ⊤) (λ x. after x < after r) (live_on H machine slot)
        (λ x live any. let a = kept x live in let b = since-within H x judged in omega (arith, a, b, now, later)) (every (live_on H machine slot)))
    by false = ascends-agree (since_of H) after (live_on H machine slot) kept up
step H minute number machine slot (MaterialsUnloaded m s) judged accepted later up = by (same m machine && same s slot)
  where
    by : (b : Bool) → Ascends (since_of H) (if b then [] else live_on H machine slot)
    by true = tt
    by false = up
step H minute number machine slot _ judged accepted later up = up

-- The live reels of a slot are in the order of the numbers of their loads and splices.
pub since-ascends : (H : History) (machine slot : Name) → IsJudged Two H → Ascends (since_of H) (live_on H machine slot)
unfolding live_on tape_of
since-ascends [] machine slot judged = tt
since-ascends (e ∷ H) machine slot (next, judged) =
    subst (Ascends (since_of (e ∷ H))) (sym (live-next H e machine slot (next, judged))) (
    ascends-filter (since_of (e ∷ H)) (λ r. nat_lt 0 (left_of (e ∷ H) r)) _ (
    step H e.effective e.number machine slot e.stamped.command judged (next-accepted H e next) (let at = next.number in omega (arith, at)) (since-ascends H machine slot judged)))

-- ---- uniqueness

not-again : (since : Name → ℕ) (r : Name) (rs : List Name) → AllByRecursion (λ x. since r < since x) rs → has rs r ≡ false
not-again since r rs first = by (has rs r) refl
  where
    by : (b : Bool) → has rs r ≡ b → has rs r ≡ false
    by true there = let less = all-at (λ x. since r < since x) rs r first there in absurd (omega (arith, less))
    by false there = there

-- The mounts of a slot, by their numbers, are its live reels: both lists have the same members, with rising numbers.
pub ascending-same : (since : Name → ℕ) (xs ys : List Name) → Ascends since xs → Ascends since ys → ((r : Name) → has xs r ≡ has ys r) → xs ≡ ys
ascending-same since [] [] up up' agree = refl
ascending-same since [] (y ∷ ys) up up' agree = let at = agree y in let here = or_left (same y y) (has ys y) (same-refl y) in cc
ascending-same since (x ∷ xs) [] up up' agree = let at = agree x in let here = or_left (same x x) (has xs x) (same-refl x) in cc
ascending-same since (x ∷ xs) (y ∷ ys) (first, up) (first', up') agree =
    ap (λ l. x ∷ l) (ascending-same since xs ys up up' tails) ∙ ap (λ z. z ∷ ys) (heads (same x y) refl)
  where
    in-ys : (same x y || has ys x) ≡ true
    in-ys = sym (agree x) ∙ or_left (same x x) (has xs x) (same-refl x)

    in-xs : (same y x || has xs y) ≡ true
    in-xs = agree y ∙ or_left (same y y) (has ys y) (same-refl y)

    rest-of : (a b : Bool) → a ≡ false → (a || b) ≡ true → b ≡ true
    rest-of true b off is = cc
    rest-of false b off is = is

    heads : (b : Bool) → same x y ≡ b → x ≡ y
    heads true here = same-true x y here
    heads false away =
        let above = all-at (λ z. since y < since z) ys x first' (rest-of (same x y) (has ys x) away in-ys) in
        let below = all-at (λ z. since x < since z) xs y first (rest-of (same y x) (has xs y) (same-sym y x ∙ away) in-xs) in
        absurd (omega (arith, above, below))

    tails : (r : Name) → has xs r ≡ has ys r
    tails r = by (same r x) refl
      where
        one : x ≡ y
        one = heads (same x y) refl

        by : (b : Bool) → same r x ≡ b → has xs r ≡ has ys r
        by true here =
            ap (has xs) (same-true r x here) ∙ not-again since x xs first
            ∙ sym (ap (has ys) (same-true r x here ∙ one) ∙ not-again since y ys first')
        by false away = sym (ap (λ b. b || has xs r) away) ∙ agree r ∙ ap (λ b. b || has ys r) (ap (same r) (sym one) ∙ away)

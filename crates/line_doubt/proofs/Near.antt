-- A slot's last run says whether a piece is close to a change of reel.
use Rattle.desk_types.proofs.Common.{[], ◌&&◌, ◌+◌, ◌∙◌, ◌∷◌, ◌≡◌, ◌≤◌, ◌||◌, All, All-head, All-tail, and-false, and-true, and_comm}
use Rattle.desk_types.proofs.Common.{ap, ap₂, arith, Bool, cond, count_by, false, leb-true, List, list_any, lt-ltb, ltb-false}
use Rattle.desk_types.proofs.Common.{ltb-true, map, nat_le, nat_lt, None, not, Option, or-false, refl, same, same-true, Some}
use Rattle.desk_types.proofs.Common.{sum_by-cons, sym, true, true≢false, zero-add, ⊤, ℕ}
use Rattle.std.proofs.Math.Bool.{and_assoc}
use Rattle.std.proofs.lemmas.Bool.{le-leb, le-ltb}
use Rattle.std.proofs.lemmas.List.Elements.{All-weaker}
use Rattle.desk_types.specs.declared.placement.Placement.{Placement}
use Rattle.line_doubt.specs.declared.runs.Run.{Run}
use Rattle.line_doubt.specs.declared.runs.Spot.{Spot}
use Rattle.line_doubt.specs.Runs.{is_close, longer, reaches, run_of}
use Rattle.line_doubt.proofs.Lists.{any-same-where}

-- ---- one more piece of the slot

-- Whether the run says so if n pieces of the slot were passed before it.
abbrev near_by : ℕ → ℕ → Option Run → Spot → Bool
near_by n t None p = false
near_by n t (Some run) p = cond (same run.reel p.reel) (nat_lt (n + run.count) t && reaches p.own run.before)
    (nat_lt n t && nat_le p.own run.kept)

none-passed : (t : ℕ) (run : Option Run) (p : Spot) → is_close t run p ≡ near_by 0 t run p
none-passed t None p = refl
none-passed t (Some run) p =
    ap (λ k. cond (same run.reel p.reel) (nat_lt k t && reaches p.own run.before) (nat_lt 0 t && nat_le p.own run.kept))
    (sym (zero-add run.count))

abbrev LowBefore : ℕ → Option ℕ → Type 0
LowBefore high None = ⊤
LowBefore high (Some kept) = kept ≤ high

-- Nothing of the run is kept above the number.
abbrev Low : ℕ → Option Run → Type 0
Low high None = ⊤
Low high (Some run) = (run.kept ≤ high) × LowBefore run.kept run.before

higher : (low high : ℕ) (before : Option ℕ) → low ≤ high → LowBefore low before → LowBefore high before
higher low high None le is = tt
higher low high (Some kept) le is = omega (arith, le, is)

low-longer : (t : ℕ) (run : Option Run) (q : Spot) (high : ℕ) → q.kept ≤ high → Low q.kept run
    → Low high (Some (longer t run q))
low-longer t None q high le low = (le, tt)
low-longer t (Some run) q high le low = by (same run.reel q.reel)
  where
    by : (b : Bool) → Low high (Some (cond b (record {
      reel = run.reel;
      count = cond (nat_lt run.count t) (run.count + 1) run.count;
      kept = q.kept;
      before = run.before;
    }) (record { reel = q.reel; count = 1; kept = q.kept; before = Some run.kept })))
    by true = (le, higher run.kept q.kept run.before low.0 low.1)
    by false = (le, low.0)

-- One of the two holds already if the other does.
sunk : (a b c d : Bool) → (c ≡ true → a ≡ true) → (d ≡ true → b ≡ true) → (a && b) ≡ ((b && a) || (c && d))
sunk true true c d ca db = refl
sunk true false true true ca db = db refl
sunk true false true false ca db = refl
sunk true false false d ca db = refl
sunk false true true d ca db = absurd (true≢false (sym (ca refl)))
sunk false true false d ca db = refl
sunk false false true d ca db = absurd (true≢false (sym (ca refl)))
sunk false false false d ca db = refl

fewer : (n m t : ℕ) → n ≤ m → nat_lt m t ≡ true → nat_lt n t ≡ true
fewer n m t le is = let lt = ltb-true m t is in lt-ltb n t (omega (arith, lt, le))

lower : (own j k : ℕ) → j ≤ k → nat_le own j ≡ true → nat_le own k ≡ true
lower own j k le is = let low = leb-true own j is in le-leb own k (omega (arith, low, le))

lower-before : (own k : ℕ) (before : Option ℕ) → LowBefore k before → reaches own before ≡ true → nat_le own k ≡ true
lower-before own k None le is = cc
lower-before own k (Some j) le is = lower own j k le is

counted : (n t count : ℕ) → nat_lt (n + cond (nat_lt count t) (count + 1) count) t ≡ nat_lt ((n + 1) + count) t
counted n t count = by (nat_lt count t) refl
  where
    by : (b : Bool) → nat_lt count t ≡ b → nat_lt (n + cond b (count + 1) count) t ≡ nat_lt ((n + 1) + count) t
    by true is = ap (λ k. nat_lt k t) (omega arith)
    by false is = let all = ltb-false count t is in
        le-ltb (n + count) t (omega (arith, all)) ∙ sym (le-ltb ((n + 1) + count) t (omega (arith, all)))

-- Whether the piece itself is of another reel, on the same tape, and near enough.
abbrev is_other : ℕ → ℕ → Spot → Spot → Bool
is_other n t q p = not (same q.reel p.reel) && (nat_le p.own q.kept && nat_lt n t)

near-longer : (n t : ℕ) (run : Option Run) (q p : Spot) → Low q.kept run
    → near_by n t (Some (longer t run q)) p ≡ (is_other n t q p || near_by (n + 1) t run p)
near-longer n t None q p low = by (same q.reel p.reel)
  where
    by : (b : Bool) → cond b (nat_lt (n + 1) t && false) (nat_lt n t && nat_le p.own q.kept)
        ≡ ((not b && (nat_le p.own q.kept && nat_lt n t)) || false)
    by true = and-false (nat_lt (n + 1) t)
    by false = and_comm (nat_lt n t) (nat_le p.own q.kept) ∙ sym (or-false (nat_le p.own q.kept && nat_lt n t))
near-longer n t (Some run) q p low = by (same run.reel q.reel) refl
  where
    more : Bool
    more = nat_lt ((n + 1) + run.count) t && reaches p.own run.before

    last : Bool
    last = nat_lt (n + 1) t && nat_le p.own run.kept

    absorbed : (b : Bool) → (nat_lt n t && nat_le p.own q.kept)
        ≡ ((nat_le p.own q.kept && nat_lt n t) || cond b more last)
    absorbed true = sunk (nat_lt n t) (nat_le p.own q.kept) (nat_lt ((n + 1) + run.count) t) (reaches p.own run.before)
        (fewer n ((n + 1) + run.count) t (omega arith))
        (lower-before p.own q.kept run.before (higher run.kept q.kept run.before low.0 low.1))
    absorbed false = sunk (nat_lt n t) (nat_le p.own q.kept) (nat_lt (n + 1) t) (nat_le p.own run.kept)
        (fewer n (n + 1) t (omega arith)) (lower p.own run.kept q.kept low.0)

    goes-on : (b : Bool) → cond b (nat_lt (n + cond (nat_lt run.count t) (run.count + 1) run.count) t
        && reaches p.own run.before) (nat_lt n t && nat_le p.own q.kept)
        ≡ ((not b && (nat_le p.own q.kept && nat_lt n t)) || cond b more last)
    goes-on true = ap (λ b. b && reaches p.own run.before) (counted n t run.count)
    goes-on false = absorbed false

    begins : (b : Bool) → same q.reel p.reel ≡ b → same run.reel q.reel ≡ false
        → cond b last (nat_lt n t && nat_le p.own q.kept)
        ≡ ((not b && (nat_le p.own q.kept && nat_lt n t)) || cond (same run.reel p.reel) more last)
    begins true is other = sym (ap (λ b. cond b more last)
        (ap (same run.reel) (sym (same-true q.reel p.reel is)) ∙ other))
    begins false is other = absorbed (same run.reel p.reel)

    by : (b : Bool) → same run.reel q.reel ≡ b → near_by n t (Some (cond b (record {
      reel = run.reel;
      count = cond (nat_lt run.count t) (run.count + 1) run.count;
      kept = q.kept;
      before = run.before;
    }) (record { reel = q.reel; count = 1; kept = q.kept; before = Some run.kept }))) p
        ≡ (is_other n t q p || near_by (n + 1) t (Some run) p)
    by true is = goes-on (same run.reel p.reel)
        ∙ ap (λ reel. (not (same reel p.reel) && (nat_le p.own q.kept && nat_lt n t)) ||
        cond (same run.reel p.reel) more last) (same-true run.reel q.reel is)
    by false is = begins (same q.reel p.reel) refl is

-- ---- pieces that were met, the last of them first

-- Each piece comes before those in front of it.
abbrev pub Falls : (Placement → Placement → Bool) → List Placement → Type 0
Falls before [] = ⊤
Falls before (x ∷ xs) = All (λ y. before y x ≡ true) xs × Falls before xs

pub count-cons : {X : Type 0} (f : X → Bool) (x : X) (xs : List X)
    → count_by f (x ∷ xs) ≡ cond (f x) 1 0 + count_by f xs
count-cons f x xs = sum_by-cons (λ x. cond (f x) 1 0) x xs

pub count-none : {X : Type 0} (f : X → Bool) (xs : List X) → All (λ x. f x ≡ false) xs → count_by f xs ≡ 0
count-none f [] all = refl
count-none f (x ∷ xs) all =
    count-cons f x xs
    ∙ ap₂ (λ b n. cond b 1 0 + n) (All-head (λ x. f x ≡ false) x xs all)
    (count-none f xs (All-tail (λ x. f x ≡ false) x xs all))

module _ (before : Placement → Placement → Bool) (spot : Placement → Spot) (t : ℕ) (p : Spot)
    (asymmetric : (x y : Placement) → before x y ≡ true → before y x ≡ false)
    (itself : (x : Placement) → before x x ≡ false) where
  -- Whether the piece is of the slot.
  abbrev pub is_at : Placement → Bool
  is_at q = same (spot q).machine p.machine && same (spot q).slot p.slot

  -- The pieces of the slot that came after q.
  abbrev pub behind : Placement → List Placement → ℕ
  behind q qs = count_by (λ x. is_at x && before q x) qs

  -- Whether the piece is of another reel and on the same tape.
  abbrev pub is_another : Placement → Bool
  is_another q = not (same (spot q).reel p.reel) && nat_le p.own (spot q).kept

  -- Whether one of the pieces is such after n were passed.
  abbrev near_from : ℕ → List Placement → Bool
  near_from n [] = false
  near_from n (q ∷ qs) = cond (is_at q) (is_other n t (spot q) p || near_from (n + 1) qs) (near_from n qs)

  behind-first : (q : Placement) (qs : List Placement) → All (λ y. before y q ≡ true) qs → behind q (q ∷ qs) ≡ 0
  behind-first q qs all =
      count-cons (λ x. is_at x && before q x) q qs
      ∙ ap₂ (λ b n. cond b 1 0 + n) (ap (λ b. is_at q && b) (itself q) ∙ and-false (is_at q))
      (count-none (λ x. is_at x && before q x) qs (All-weaker (λ y. before y q ≡ true)
      (λ y. (is_at y && before q y) ≡ false)
      (λ y is. ap (λ b. is_at y && b) (asymmetric y q is) ∙ and-false (is_at y)) qs all))

  behind-next : (y q : Placement) (qs : List Placement) (b : Bool) → is_at q ≡ b → before y q ≡ true
      → behind y (q ∷ qs) ≡ cond b 1 0 + behind y qs
  behind-next y q qs b at is =
      count-cons (λ x. is_at x && before y x) q qs
      ∙ ap (λ b. cond b 1 0 + behind y qs) (ap₂ (λ a b. a && b) at is ∙ and-true b)

  near-counted : (qs : List Placement) → Falls before qs → (n : ℕ)
      → near_from n qs ≡ list_any (λ q. (is_at q && is_another q) && nat_lt (n + behind q qs) t) qs
  near-counted [] falls n = refl
  near-counted (q ∷ qs) falls n = by (is_at q) refl (near-counted qs falls.1 (n + 1)) (near-counted qs falls.1 n)
    where
      none : behind q (q ∷ qs) ≡ 0
      none = behind-first q qs falls.0

      by : (b : Bool) → is_at q ≡ b
          → near_from (n + 1) qs ≡ list_any (λ y. (is_at y && is_another y) && nat_lt ((n + 1) + behind y qs) t) qs
          → near_from n qs ≡ list_any (λ y. (is_at y && is_another y) && nat_lt (n + behind y qs) t) qs
          → cond b (is_other n t (spot q) p || near_from (n + 1) qs) (near_from n qs)
          ≡ (((b && is_another q) && nat_lt (n + behind q (q ∷ qs)) t) ||
          list_any (λ y. (is_at y && is_another y) && nat_lt (n + behind y (q ∷ qs)) t) qs)
      by true at more level = ap₂ (λ a b. a || b)
          (sym (and_assoc (not (same (spot q).reel p.reel)) (nat_le p.own (spot q).kept) (nat_lt n t))
          ∙ ap (λ k. is_another q && nat_lt k t) (omega (arith, none)))
          (more
          ∙ any-same-where (λ y. before y q ≡ true)
          (λ y. (is_at y && is_another y) && nat_lt ((n + 1) + behind y qs) t)
          (λ y. (is_at y && is_another y) && nat_lt (n + behind y (q ∷ qs)) t)
          (λ y is. let next = behind-next y q qs true at is in
          ap (λ k. (is_at y && is_another y) && nat_lt k t) (omega (arith, next))) qs falls.0)
      by false at more level = level
          ∙ any-same-where (λ y. before y q ≡ true)
          (λ y. (is_at y && is_another y) && nat_lt (n + behind y qs) t)
          (λ y. (is_at y && is_another y) && nat_lt (n + behind y (q ∷ qs)) t)
          (λ y is. let next = behind-next y q qs false at is in
          ap (λ k. (is_at y && is_another y) && nat_lt k t) (omega (arith, next))) qs falls.0

  module _ (rises : (y x : Placement) → before y x ≡ true → is_at y ≡ true → is_at x ≡ true
      → (spot y).kept ≤ (spot x).kept) where
    run-low : (qs : List Placement) → Falls before qs → (high : ℕ)
        → All (λ y. is_at y ≡ true → (spot y).kept ≤ high) qs
        → Low high (run_of t p.machine p.slot (map spot qs))
    run-low [] falls high all = tt
    run-low (q ∷ qs) falls high all = by (is_at q) refl (λ low each. run-low qs falls.1 low each)
      where
        run : Option Run
        run = run_of t p.machine p.slot (map spot qs)

        by : (b : Bool) → is_at q ≡ b
            → ((low : ℕ) → All (λ y. is_at y ≡ true → (spot y).kept ≤ low) qs → Low low run)
            → Low high (cond b (Some (longer t run (spot q))) run)
        by true at more = low-longer t run (spot q) high
            (All-head (λ y. is_at y ≡ true → (spot y).kept ≤ high) q qs all at)
            (more (spot q).kept (All-weaker (λ y. before y q ≡ true)
            (λ y. is_at y ≡ true → (spot y).kept ≤ (spot q).kept) (λ y is here. rises y q is here at) qs falls.0))
        by false at more = more high (All-tail (λ y. is_at y ≡ true → (spot y).kept ≤ high) q qs all)

    run-near : (qs : List Placement) → Falls before qs → (n : ℕ)
        → near_by n t (run_of t p.machine p.slot (map spot qs)) p ≡ near_from n qs
    run-near [] falls n = refl
    run-near (q ∷ qs) falls n = by (is_at q) refl (run-near qs falls.1 (n + 1)) (run-near qs falls.1 n)
      where
        run : Option Run
        run = run_of t p.machine p.slot (map spot qs)

        by : (b : Bool) → is_at q ≡ b → near_by (n + 1) t run p ≡ near_from (n + 1) qs
            → near_by n t run p ≡ near_from n qs → near_by n t (cond b (Some (longer t run (spot q))) run) p
            ≡ cond b (is_other n t (spot q) p || near_from (n + 1) qs) (near_from n qs)
        by true at more level = near-longer n t run (spot q) p (run-low qs falls.1 (spot q).kept
            (All-weaker (λ y. before y q ≡ true) (λ y. is_at y ≡ true → (spot y).kept ≤ (spot q).kept)
            (λ y is here. rises y q is here at) qs falls.0))
            ∙ ap (λ b. is_other n t (spot q) p || b) more
        by false at more level = level

    -- The piece is close exactly if one of the pieces is of its slot and tape, of another reel, and
    -- fewer than t pieces of the slot came after it.
    pub close-told : (qs : List Placement) → Falls before qs
        → is_close t (run_of t p.machine p.slot (map spot qs)) p
        ≡ list_any (λ q. (is_at q && is_another q) && nat_lt (0 + behind q qs) t) qs
    close-told qs falls = none-passed t (run_of t p.machine p.slot (map spot qs)) p
        ∙ run-near qs falls 0 ∙ near-counted qs falls 0

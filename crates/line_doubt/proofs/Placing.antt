-- The order of placed pieces.
use Rattle.desk_types.proofs.Common.{[], ◌&&◌, ◌+◌, ◌++◌, ◌<◌, ◌==◌, ◌∙◌, ◌∷◌, ◌≡◌, ◌≤◌, ◌||◌, ◌⊎◌, accept, All, All-append, All-cons}
use Rattle.desk_types.proofs.Common.{All-head, All-nil, All-tail, and_from, and_parts, ap, arith, Bool, cons_option, entry_of, entry_takes, enumerate_from}
use Rattle.desk_types.proofs.Common.{eq-eqb, eqb-true, false, filter_map, History, inl, inr, length, List, lt-ltb, ltb-true, map, nat_lt}
use Rattle.desk_types.proofs.Common.{or_left, or_right, placement_of, placements_of, refl, subst, sym, takes_by, takes_of, true, ℕ}
use Rattle.std.proofs.lemmas.Bool.{le-ltb}
use Rattle.std.proofs.lemmas.List.Elements.{All-weaker}
use Rattle.desk_types.specs.declared.command.Stamped.{Stamped}
use Rattle.desk_types.specs.declared.placement.Placement.{Placement}
use Rattle.desk_types.specs.declared.take.Purpose.{Purpose}
use Rattle.desk_types.specs.declared.take.Purpose.TheVariants.{Counted, Placed, Rejected}
use Rattle.desk_types.specs.declared.take.Take.{Take}
use Rattle.line_book.specs.Doubt.{is_before}
use Rattle.line_book.specs.Restored.{history_from, history_of}
use Rattle.line_doubt.specs.Order.{pieces_rise}
use Rattle.line_doubt.proofs.Near.{Falls}
use Rattle.line_doubt.proofs.Ordering.{none-placed, one-more, placed-next, rises-within, taken}

-- ---- two pieces

lower : (a b c d : ℕ) → (nat_lt a b || ((a == b) && nat_lt c d)) ≡ true → (a < b) ⊎ ((a ≡ b) × (c < d))
lower a b c d is = by (nat_lt a b) refl is
  where
    by : (t : Bool) → nat_lt a b ≡ t → (t || ((a == b) && nat_lt c d)) ≡ true → (a < b) ⊎ ((a ≡ b) × (c < d))
    by true lt is = inl (ltb-true a b lt)
    by false lt is = let parts = and_parts (a == b) (nat_lt c d) is in
        inr (eqb-true a b parts.0, ltb-true c d parts.1)

not-lower : (a b c d : ℕ) → b ≤ a → (a ≡ b → d ≤ c) → (nat_lt a b || ((a == b) && nat_lt c d)) ≡ false
not-lower a b c d le high =
    ap (λ t. t || ((a == b) && nat_lt c d)) (le-ltb a b le) ∙ by (a == b) refl
  where
    by : (t : Bool) → (a == b) ≡ t → (t && nat_lt c d) ≡ false
    by true is = le-ltb c d (high (eqb-true a b is))
    by false is = refl

pub asymmetric : (p q : Placement) → is_before p q ≡ true → is_before q p ≡ false
asymmetric p q is = elim (lower p.number q.number p.place q.place is) [
  | inl lt ↦ not-lower q.number p.number q.place p.place (omega (arith, lt)) (λ same. absurd (omega (arith, lt, same)))
  | inr both ↦ let same = both.0 in let lt = both.1 in
      not-lower q.number p.number q.place p.place (omega (arith, same)) (λ again. omega (arith, lt))
]

pub itself : (p : Placement) → is_before p p ≡ false
itself p = not-lower p.number p.number p.place p.place (omega arith) (λ same. omega arith)

pub numbers-rise : (p q : Placement) → is_before p q ≡ true → p.number ≤ q.number
numbers-rise p q is = elim (lower p.number q.number p.place q.place is) [
  | inl lt ↦ omega (arith, lt)
  | inr both ↦ let same = both.0 in omega (arith, same)
]

-- ---- all pieces

abbrev pub is_behind : Placement → Placement → Bool
is_behind p q = is_before q p

ascend-append : (ps qs : List Placement) → Falls is_behind ps → Falls is_behind qs
    → All (λ p. All (λ q. is_before p q ≡ true) qs) ps → Falls is_behind (ps ++ qs)
ascend-append [] qs first second all = second
ascend-append (p ∷ ps) qs first second all = (
  All-append (λ q. is_before p q ≡ true) ps qs first.0 (All-head (λ p. All (λ q. is_before p q ≡ true) qs) p ps all),
  ascend-append ps qs first.1 second (All-tail (λ p. All (λ q. is_before p q ≡ true) qs) p ps all),
)

-- A piece with this number, from this place on.
abbrev IsLater : ℕ → ℕ → Placement → Type 0
IsLater n from p = (p.number ≡ n) × (from ≤ p.place)

takes-ascend : (n minute from : ℕ) (ts : List Take)
    → Falls is_behind (filter_map placement_of (map (taken n minute) (enumerate_from from ts)))
    × All (IsLater n from) (filter_map placement_of (map (taken n minute) (enumerate_from from ts)))
takes-ascend n minute from [] = (tt, All-nil (IsLater n from))
takes-ascend n minute from (take ∷ ts) = by take.purpose (takes-ascend n minute (from + 1) ts)
  where
    rest : List Placement
    rest = filter_map placement_of (map (taken n minute) (enumerate_from (from + 1) ts))

    lower-place : All (IsLater n (from + 1)) rest → All (IsLater n from) rest
    lower-place later = All-weaker (IsLater n (from + 1)) (IsLater n from)
        (λ p is. let place = is.1 in (is.0, omega (arith, place))) rest later

    with-first : (p : Placement) → p.number ≡ n → p.place ≡ from
        → Falls is_behind rest × All (IsLater n (from + 1)) rest
        → Falls is_behind (p ∷ rest) × All (IsLater n from) (p ∷ rest)
    with-first p number place later = (
      (
        All-weaker (IsLater n (from + 1)) (λ q. is_before p q ≡ true)
            (λ q is. let at = is.0 in let high = is.1 in
            or_right (nat_lt p.number q.number) ((p.number == q.number) && nat_lt p.place q.place)
            (and_from (p.number == q.number) (nat_lt p.place q.place)
            (eq-eqb p.number q.number (number ∙ sym at))
            (lt-ltb p.place q.place (omega (arith, place, high))))) rest later.1,
        later.0,
      ),
      All-cons (IsLater n from) p rest (number, omega (arith, place)) (lower-place later.1),
    )

    by : (q : Purpose) → Falls is_behind rest × All (IsLater n (from + 1)) rest
        → Falls is_behind (cons_option (placement_of (taken n minute (from, record take { purpose = q }))) rest)
        × All (IsLater n from) (cons_option (placement_of (taken n minute (from, record take { purpose = q }))) rest)
    by (Placed b d m s) later = with-first (record {
      number = n;
      place = from;
      board = b;
      designator = d;
      part = take.part;
      lot = take.lot;
      reel = take.reel;
      machine = m;
      slot = s;
      effective = minute;
      overdue = take.overdue;
    }) refl refl later
    by (Rejected m s) later = (later.0, lower-place later.1)
    by Counted later = (later.0, lower-place later.1)

one-later : (H : History) (s : Stamped) → pieces_rise (length H) (placements_of H) ≡ true
    → Falls is_behind (placements_of H) → Falls is_behind (placements_of (accept H s))
one-later H s rise falls =
    subst (Falls is_behind) (sym (placed-next H (entry_of H s)))
    (ascend-append (placements_of H) newly falls new.0
    (All-weaker (λ (p : Placement). (1 ≤ p.number) × (p.number ≤ length H)) (λ p. All (λ q. is_before p q ≡ true) newly)
    (λ p is. let low = is.1 in All-weaker (IsLater (length H + 1) 1) (λ q. is_before p q ≡ true)
    (λ q at. let high = at.0 in or_left (nat_lt p.number q.number) ((p.number == q.number) && nat_lt p.place q.place)
    (lt-ltb p.number q.number (omega (arith, low, high)))) newly new.1)
    (placements_of H) (rises-within (λ (p : Placement). p.number) 1 (length H) (placements_of H) rise)))
  where
    newly : List Placement
    newly = filter_map placement_of (entry_takes H (entry_of H s))

    new : Falls is_behind newly × All (IsLater (length H + 1) 1) newly
    new = takes-ascend (length H + 1) (entry_of H s).effective 1 (takes_by H (entry_of H s).effective s.command)

all-ascend : (H : History) (ss : List Stamped) → pieces_rise (length H) (placements_of H) ≡ true
    → Falls is_behind (placements_of H) → Falls is_behind (placements_of (history_from H ss))
all-ascend H [] rise falls = falls
all-ascend H (s ∷ ss) rise falls = all-ascend (accept H s) ss (one-more H s rise) (one-later H s rise falls)

none-ascend : Falls is_behind (placements_of [])
unfolding takes_of
none-ascend = tt

pub placements-ascend : (commands : List Stamped) → Falls is_behind (placements_of (history_of commands))
placements-ascend commands = all-ascend [] commands none-placed none-ascend

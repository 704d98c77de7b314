-- The greatest of some numbers, and the value of the best mark.
use Rattle.desk_types.proofs.Common.{[], ◌&&◌, ◌++◌, ◌==◌, ◌∙◌, ◌∷◌, ◌≡◌, ◌||◌, ◌⊎◌, and_from, ap, arith, Bool, cond}
use Rattle.desk_types.proofs.Common.{eq-eqb, false, if◌then◌else◌, inl, inr, is_some, List, list_any, max, Name, nat_lt, None}
use Rattle.desk_types.proofs.Common.{Option, or_left, or_right, refl, same, Some, sym, true, ℕ}
use Rattle.line_doubt.specs.declared.mark.Ask.{Ask}
use Rattle.line_doubt.specs.declared.mark.Mark.{Mark}
use Rattle.line_doubt.specs.Marks.{best, best_before, better, mark_before, number_above, value_of}

-- The greatest of the numbers, or 0.
abbrev pub greatest : {X : Type 0} → (X → ℕ) → List X → ℕ
greatest f [] = 0
greatest f (x ∷ xs) = max (f x) (greatest f xs)

-- The mark's value if it is of the slot and before the place, or else 0.
abbrev pub value_before : Name → Name → ℕ → Mark → ℕ
value_before machine slot to m =
    if nat_lt m.at to then (if same m.machine machine && same m.slot slot then m.value else 0) else 0

-- The greatest value that was marked at the slot before the place, or 0.
abbrev pub greatest_before : List Mark → Ask → ℕ
greatest_before marks a = greatest (value_before a.machine a.slot a.at) marks

pub greatest-append : {X : Type 0} (f : X → ℕ) (xs ys : List X)
    → greatest f (xs ++ ys) ≡ max (greatest f xs) (greatest f ys)
greatest-append f [] ys = omega arith
greatest-append f (x ∷ xs) ys = let more = greatest-append f xs ys in omega (arith, more)

lt-max : (k a b : ℕ) → (nat_lt k a || nat_lt k b) ≡ nat_lt k (max a b)
lt-max k a b = grind arith

-- Some number is above k exactly if the greatest is.
pub any-above : {X : Type 0} (f : X → ℕ) (k : ℕ) (xs : List X)
    → list_any (λ x. nat_lt k (f x)) xs ≡ nat_lt k (greatest f xs)
any-above f k [] = grind arith
any-above f k (x ∷ xs) = ap (λ b. nat_lt k (f x) || b) (any-above f k xs) ∙ lt-max k (f x) (greatest f xs)

pub never : (k : ℕ) → nat_lt k 0 ≡ false
never k = grind arith

pub zero-max : (n : ℕ) → max 0 n ≡ n
zero-max n = omega arith

-- ---- the value of the best mark

value-better : (a b : Option Mark) → value_of (better a b) ≡ max (value_of a) (value_of b)
value-better None b = sym (zero-max (value_of b))
value-better (Some a) None = omega arith
value-better (Some a) (Some b) = by (nat_lt a.value b.value) refl
  where
    by : (t : Bool) → nat_lt a.value b.value ≡ t → value_of (cond t (Some b) (Some a)) ≡ max a.value b.value
    by true is = grind (arith, is)
    by false is = grind (arith, is)

value-best : {X : Type 0} (f : X → Option Mark) (xs : List X) → value_of (best f xs) ≡ greatest (λ x. value_of (f x)) xs
value-best f [] = refl
value-best f (x ∷ xs) = value-better (f x) (best f xs) ∙ ap (max (value_of (f x))) (value-best f xs)

value-before : (machine slot : Name) (to : ℕ) (m : Mark)
    → value_of (mark_before machine slot to m) ≡ value_before machine slot to m
value-before machine slot to m = by (nat_lt m.at to) (same m.machine machine && same m.slot slot)
  where
    by : (b t : Bool) → value_of (cond b (cond t (Some m) None) None) ≡ cond b (cond t m.value 0) 0
    by true true = refl
    by true false = refl
    by false t = refl

pub best-value : (marks : List Mark) (a : Ask) → value_of (best_before marks a) ≡ greatest_before marks a
best-value marks a = value-best (mark_before a.machine a.slot a.at) marks
    ∙ ap (λ f. greatest f marks) (λ j m. value-before a.machine a.slot a.at m j)

-- ---- the number of the best mark

better-one : (a b : Option Mark) (m : Mark) → better a b ≡ Some m → (a ≡ Some m) ⊎ (b ≡ Some m)
better-one None b m is = inr is
better-one (Some a) None m is = inl is
better-one (Some a) (Some b) m is = by (nat_lt a.value b.value) is
  where
    by : (t : Bool) → cond t (Some b) (Some a) ≡ Some m → (Some a ≡ Some m) ⊎ (Some b ≡ Some m)
    by true is = inr is
    by false is = inl is

best-any : {X : Type 0} (f : X → Option Mark) (P : X → Bool) (m : Mark) → ((x : X) → f x ≡ Some m → P x ≡ true)
    → (xs : List X) → best f xs ≡ Some m → list_any P xs ≡ true
best-any f P m each [] is = cc
best-any f P m each (x ∷ xs) is = elim (better-one (f x) (best f xs) m is) [
  | inl here ↦ or_left (P x) (list_any P xs) (each x here)
  | inr later ↦ or_right (P x) (list_any P xs) (best-any f P m each xs later)
]

mark-kept : (machine slot : Name) (to : ℕ) (o m : Mark) → mark_before machine slot to o ≡ Some m → o ≡ m
mark-kept machine slot to o m is = by (nat_lt o.at to) (same o.machine machine && same o.slot slot) is
  where
    by : (b t : Bool) → cond b (cond t (Some o) None) None ≡ Some m → o ≡ m
    by true true is = cc
    by true false is = cc
    by false t is = cc

-- Whether the mark has the number, and a value above k at the slot before the place.
abbrev pub is_mark : ℕ → ℕ → Ask → Mark → Bool
is_mark n k a m = (m.number == n) && nat_lt k (value_before a.machine a.slot a.at m)

-- The number is that of a mark whose value is above k.
pub number-told : (marks : List Mark) (a : Ask) (k n : ℕ) → number_above (best_before marks a) k ≡ Some n
    → list_any (is_mark n k a) marks ≡ true
number-told marks a k n is = by (best_before marks a) refl is
  where
    above : (m : Mark) → best_before marks a ≡ Some m → (t : Bool) → nat_lt k m.value ≡ t
        → cond t (Some m.number) None ≡ Some n → list_any (is_mark n k a) marks ≡ true
    above m was true lt is =
        let number : m.number ≡ n = cc in
        best-any (mark_before a.machine a.slot a.at) (is_mark n k a) m
        (λ o kept. and_from (o.number == n) (nat_lt k (value_before a.machine a.slot a.at o))
        (eq-eqb o.number n (ap (λ (m : Mark). m.number) (mark-kept a.machine a.slot a.at o m kept) ∙ number))
        (ap (nat_lt k) (sym (value-before a.machine a.slot a.at o) ∙ ap value_of kept) ∙ lt))
        marks was
    above m was false lt is = cc

    by : (o : Option Mark) → best_before marks a ≡ o → number_above o k ≡ Some n
        → list_any (is_mark n k a) marks ≡ true
    by None was is = cc
    by (Some m) was is = above m was (nat_lt k m.value) refl is

number-some : (o : Option Mark) (k : ℕ) → is_some (number_above o k) ≡ nat_lt k (value_of o)
number-some None k = sym (never k)
number-some (Some m) k = by (nat_lt k m.value)
  where
    by : (t : Bool) → is_some (cond t (Some m.number) None) ≡ t
    by true = refl
    by false = refl

-- There is a number exactly if the greatest value is above k.
pub number-found : (marks : List Mark) (a : Ask) (k : ℕ)
    → is_some (number_above (best_before marks a) k) ≡ nat_lt k (greatest_before marks a)
number-found marks a k = number-some (best_before marks a) k ∙ ap (nat_lt k) (best-value marks a)

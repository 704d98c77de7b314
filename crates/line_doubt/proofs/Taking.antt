-- The marks that a map has taken in.
use Rattle.desk_types.proofs.Common.{[], ◌+◌, ◌++◌, ◌<◌, ◌∙◌, ◌∷◌, ◌≡◌, ◌≤◌, All, All-append, All-cons, All-head, All-nil}
use Rattle.desk_types.proofs.Common.{All-tail, ap, ap₂, arith, Bool, BTreeMap, cond, drop, drop_all, false, length}
use Rattle.desk_types.proofs.Common.{List, lt-ltb, ltb-false, ltb-true, Name, nat_lt, None, Option, refl, Some, subst, sym, take}
use Rattle.desk_types.proofs.Common.{take-append-drop, true, ℕ}
use Rattle.std.proofs.lemmas.Bool.{le-ltb}
use Rattle.std.proofs.lemmas.List.Elements.{All-weaker}
use Rattle.line_doubt.specs.declared.mark.Mark.{Mark}
use Rattle.line_doubt.specs.Marks.{AreTaken, best, best_in, better, mark_at, mark_before, MarksRise}

-- ---- the better of marks

better-none : (a : Option Mark) → better a None ≡ a
better-none None = refl
better-none (Some a) = refl

better-again : (a b c : Option Mark) → better (better a b) c ≡ better a (better b c)
better-again None b c = refl
better-again (Some a) None c = refl
better-again (Some a) (Some b) None =
    better-none (better (Some a) (Some b)) ∙ ap (better (Some a)) (sym (better-none (Some b)))
better-again (Some a) (Some b) (Some c) = by (nat_lt a.value b.value) (nat_lt b.value c.value) refl refl
  where
    by : (s t : Bool) → nat_lt a.value b.value ≡ s → nat_lt b.value c.value ≡ t
        → better (cond s (Some b) (Some a)) (Some c) ≡ better (Some a) (cond t (Some c) (Some b))
    by true true ab bc =
        let low = ltb-true a.value b.value ab in
        let high = ltb-true b.value c.value bc in
        ap (λ s. cond s (Some c) (Some b)) bc
        ∙ sym (ap (λ s. cond s (Some c) (Some a)) (lt-ltb a.value c.value (omega (arith, low, high))))
    by true false ab bc = ap (λ s. cond s (Some c) (Some b)) bc ∙ sym (ap (λ s. cond s (Some b) (Some a)) ab)
    by false true ab bc = refl
    by false false ab bc =
        let low = ltb-false a.value b.value ab in
        let high = ltb-false b.value c.value bc in
        ap (λ s. cond s (Some c) (Some a)) (le-ltb a.value c.value (omega (arith, low, high)))
        ∙ sym (ap (λ s. cond s (Some b) (Some a)) ab)

best-append : {X : Type 0} (f : X → Option Mark) (xs ys : List X) → best f (xs ++ ys) ≡ better (best f xs) (best f ys)
best-append f [] ys = refl
best-append f (x ∷ xs) ys =
    ap (better (f x)) (best-append f xs ys) ∙ sym (better-again (f x) (best f xs) (best f ys))

best-last : {X : Type 0} (f : X → Option Mark) (xs : List X) (x : X)
    → best f (xs ++ x ∷ []) ≡ better (best f xs) (f x)
best-last f xs x = best-append f xs (x ∷ []) ∙ ap (better (best f xs)) (better-none (f x))

-- ---- one more mark

pub raised : (b : Bool) (old : Option Mark) (m : Mark)
    → cond b (better old (Some m)) old ≡ better old (cond b (Some m) None)
raised true old m = refl
raised false old m = sym (better-none old)

-- The map has the best of so many marks, which are all before the place, and the others rise.
abbrev pub Going : List Mark → ℕ → ℕ → BTreeMap (Name × Name) Mark → Type 0
Going marks to at found =
    ((machine slot : Name) → best_in found machine slot ≡ best (mark_at machine slot) (take at marks))
    × All (λ (m : Mark). m.at < to) (take at marks) × ((from : ℕ) × MarksRise from (drop at marks))

pub begins : (marks : List Mark) (before to at : ℕ) (found : BTreeMap (Name × Name) Mark) → before ≤ to
    → AreTaken marks before at found → Going marks to at found
begins marks before to at found le is = (
  is.values,
  All-weaker (λ (m : Mark). m.at < before) (λ (m : Mark). m.at < to) (λ m lt. omega (arith, lt, le))
      (take at marks) is.before,
  (before, is.rest),
)

pub goes-on : (marks : List Mark) (to at : ℕ) (old new : BTreeMap (Name × Name) Mark) (m : Mark) → at < length marks
    → take (at + 1) marks ≡ take at marks ++ m ∷ [] → drop at marks ≡ m ∷ drop (at + 1) marks → m.at < to
    → ((machine slot : Name) → best_in new machine slot ≡ better (best_in old machine slot) (mark_at machine slot m))
    → Going marks to at old → Going marks to (at + 1) new
goes-on marks to at old new m inside longer shorter lt raises is = (
  λ machine slot. raises machine slot
      ∙ ap (λ o. better o (mark_at machine slot m)) (is.0 machine slot)
      ∙ sym (ap (best (mark_at machine slot)) longer
      ∙ best-last (mark_at machine slot) (take at marks) m),
  subst (All (λ (m : Mark). m.at < to)) (sym longer)
      (All-append (λ (m : Mark). m.at < to) (take at marks) (m ∷ []) is.1
      (All-cons (λ (m : Mark). m.at < to) m [] lt (All-nil (λ (m : Mark). m.at < to)))),
  (m.at, (subst (MarksRise (is.2.0)) shorter is.2.1).1),
)

-- The next mark isn't before the place.
pub stops-at : (marks : List Mark) (to at : ℕ) (found : BTreeMap (Name × Name) Mark) (m : Mark)
    → drop at marks ≡ m ∷ drop (at + 1) marks → to ≤ m.at → Going marks to at found → AreTaken marks to at found
stops-at marks to at found m shorter le is = record {
  values = is.0;
  before = is.1;
  rest = subst (MarksRise to) (sym shorter) (le, (subst (MarksRise (is.2.0)) shorter is.2.1).1);
}

pub stops-behind : (marks : List Mark) (to at : ℕ) (found : BTreeMap (Name × Name) Mark) → length marks ≤ at
    → Going marks to at found → AreTaken marks to at found
stops-behind marks to at found all is = record {
  values = is.0;
  before = is.1;
  rest = subst (MarksRise to) (sym (drop_all at marks all)) tt;
}

-- ---- an answer

all-before : (machine slot : Name) (to : ℕ) (ms : List Mark) → All (λ (m : Mark). m.at < to) ms
    → best (mark_before machine slot to) ms ≡ best (mark_at machine slot) ms
all-before machine slot to [] all = refl
all-before machine slot to (m ∷ ms) all = ap₂ better
    (ap (λ b. cond b (mark_at machine slot m) None) (lt-ltb m.at to (All-head (λ (m : Mark). m.at < to) m ms all)))
    (all-before machine slot to ms (All-tail (λ (m : Mark). m.at < to) m ms all))

none-before : (machine slot : Name) (to from : ℕ) (ms : List Mark) → to ≤ from → MarksRise from ms
    → best (mark_before machine slot to) ms ≡ None
none-before machine slot to from [] le rise = refl
none-before machine slot to from (m ∷ ms) le rise =
    let low = rise.0 in
    ap₂ better (ap (λ b. cond b (mark_at machine slot m) None) (le-ltb m.at to (omega (arith, le, low))))
    (none-before machine slot to m.at ms (omega (arith, le, low)) rise.1)

pub taken-tells : (marks : List Mark) (to at : ℕ) (found : BTreeMap (Name × Name) Mark) (machine slot : Name)
    → AreTaken marks to at found → best_in found machine slot ≡ best (mark_before machine slot to) marks
taken-tells marks to at found machine slot is =
    is.values machine slot
    ∙ sym (ap (best (mark_before machine slot to)) (sym (take-append-drop at marks))
    ∙ best-append (mark_before machine slot to) (take at marks) (drop at marks)
    ∙ ap₂ better (all-before machine slot to (take at marks) is.before)
    (none-before machine slot to to (drop at marks) (omega arith) is.rest)
    ∙ better-none (best (mark_at machine slot) (take at marks)))

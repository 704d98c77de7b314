-- Pieces near a splice, from the runs of their slots.
use Rattle.desk_types.proofs.Common.{[], ◌&&◌, ◌+◌, ◌++◌, ◌-◌, ◌<◌, ◌∙◌, ◌∷◌, ◌≡◌, ◌≤◌, ◌||◌, All, All-append, All-cons, All-head, All-nil}
use Rattle.desk_types.proofs.Common.{All-tail, and-true, and_parts, ap, append_assoc, ap₂, arith, Bool, cond, count_by, false, get_or, History}
use Rattle.desk_types.proofs.Common.{leb-false, leb-true, length, List, list_any, list_any-append, lt-ltb, ltb-false, ltb-true, map}
use Rattle.desk_types.proofs.Common.{Name, nat_le, nat_lt, not, or-false, placements_of, refl, reverse, same, same-sym, same-true, subst}
use Rattle.desk_types.proofs.Common.{sum_by-append, sym, true, zero-add, ℕ}
use Rattle.std.proofs.Math.Bool.{and_assoc}
use Rattle.std.proofs.lemmas.Bool.{le-leb, le-ltb, lt-leb}
use Rattle.std.proofs.lemmas.List.Elements.{All-weaker}
use Rattle.std.proofs.lemmas.List.Folds.{list_any_none}
use Rattle.desk_laws.specs.TapeOrder.{restarts}
use Rattle.desk_types.specs.declared.command.Entry.{Entry}
use Rattle.desk_types.specs.declared.command.Stamped.{Stamped}
use Rattle.desk_types.specs.declared.placement.Placement.{Placement}
use Rattle.line_book.specs.Doubt.{is_before, is_near, is_restarted, pieces_between, same_slot}
use Rattle.line_book.specs.Restored.{history_of}
use Rattle.line_doubt.specs.declared.mark.Mark.{Mark}
use Rattle.line_doubt.specs.declared.runs.Spot.{Spot}
use Rattle.line_doubt.specs.Runs.{close_flags, is_close, run_of, spot_from_end, spot_of}
use Rattle.line_doubt.specs.Sources.{ask_of, restart_marks, restarted_by}
use Rattle.line_doubt.proofs.Greatest.{best-value, greatest, greatest_before, value_before}
use Rattle.line_doubt.proofs.Lists.{any-same-where, or-first}
use Rattle.line_doubt.proofs.Passed.{flags-reversed, flags_behind, onto, onto-last}
use Rattle.line_doubt.proofs.Near.{close-told, count-cons, count-none, Falls}
use Rattle.line_doubt.proofs.Ordering.{pieces-within, placements-rise}
use Rattle.line_doubt.proofs.Placing.{asymmetric, is_behind, itself, numbers-rise, placements-ascend}
use Rattle.line_doubt.proofs.Unsettling.{restarted-since}

-- ---- lists

All-onto : {X : Type 0} (P : X → Type 0) (met xs : List X) → All P met → All P xs → All P (onto met xs)
All-onto P met [] first second = first
All-onto P met (x ∷ xs) first second =
    All-onto P (x ∷ met) xs (All-cons P x met (All-head P x xs second) first) (All-tail P x xs second)

count-same : {X : Type 0} (P : X → Type 0) (f g : X → Bool) → ((x : X) → P x → f x ≡ g x) → (xs : List X) → All P xs
    → count_by f xs ≡ count_by g xs
count-same P f g each [] all = refl
count-same P f g each (x ∷ xs) all =
    count-cons f x xs
    ∙ ap₂ (λ b n. cond b 1 0 + n) (each x (All-head P x xs all)) (count-same P f g each xs (All-tail P x xs all))
    ∙ sym (count-cons g x xs)

count-append : {X : Type 0} (f : X → Bool) (xs ys : List X) → count_by f (xs ++ ys) ≡ count_by f xs + count_by f ys
count-append f xs ys = sum_by-append (λ x. cond (f x) 1 0) xs ys

count-onto : {X : Type 0} (f : X → Bool) (met xs : List X) → count_by f (onto met xs) ≡ count_by f met + count_by f xs
count-onto f met [] = omega arith
count-onto f met (x ∷ xs) =
    let more = count-onto f (x ∷ met) xs in
    let first = count-cons f x met in
    let second = count-cons f x xs in
    omega (arith, more, first, second)

any-onto : {X : Type 0} (f : X → Bool) (met xs : List X) → list_any f (onto met xs) ≡ (list_any f met || list_any f xs)
any-onto f met [] = sym (or-false (list_any f met))
any-onto f met (x ∷ xs) = any-onto f (x ∷ met) xs ∙ or-first (f x) (list_any f met) (list_any f xs)

plus-zero : (n : ℕ) → n + 0 ≡ n
plus-zero n = omega arith

zeros-plus : (n : ℕ) → 0 + (0 + n) ≡ n
zeros-plus n = omega arith

-- ---- slots

slot-sym : (p q : Placement) → same_slot p q ≡ same_slot q p
slot-sym p q = ap₂ (λ a b. a && b) (same-sym p.machine q.machine) (same-sym p.slot q.slot)

slot-parts : (p q : Placement) → same_slot p q ≡ true → (p.machine ≡ q.machine) × (p.slot ≡ q.slot)
slot-parts p q is = let parts = and_parts (same p.machine q.machine) (same p.slot q.slot) is in
    (same-true p.machine q.machine parts.0, same-true p.slot q.slot parts.1)

slot-through : (q p x : Placement) → same_slot q p ≡ true → same_slot q x ≡ same_slot x p
slot-through q p x is = let names = slot-parts q p is in
    ap₂ (λ machine slot. same machine x.machine && same slot x.slot) names.0 names.1 ∙ slot-sym p x

-- ---- restarts

never-between : (to n : ℕ) (b : Bool) → ((nat_lt to n && nat_lt n to) && b) ≡ false
never-between to n b = by (nat_lt to n) refl
  where
    by : (t : Bool) → nat_lt to n ≡ t → ((t && nat_lt n to) && b) ≡ false
    by true is = let lt = ltb-true to n is in ap (λ t. t && b) (le-ltb n to (omega (arith, lt)))
    by false is = refl

greatest-rises : {X : Type 0} (f g : X → ℕ) → ((x : X) → f x ≤ g x) → (xs : List X) → greatest f xs ≤ greatest g xs
greatest-rises f g each [] = omega arith
greatest-rises f g each (x ∷ xs) =
    let here = each x in let more = greatest-rises f g each xs in omega (arith, here, more)

value-rises : (machine slot : Name) (low high : ℕ) (m : Mark) → low ≤ high
    → value_before machine slot low m ≤ value_before machine slot high m
value-rises machine slot low high m le = by (nat_lt m.at low) refl
  where
    value : ℕ
    value = cond (same m.machine machine && same m.slot slot) m.value 0

    by : (b : Bool) → nat_lt m.at low ≡ b → cond b value 0 ≤ cond (nat_lt m.at high) value 0
    by true is = let lt = ltb-true m.at low is in
        let is : nat_lt m.at high ≡ true = lt-ltb m.at high (omega (arith, lt, le)) in
        subst (λ b. value ≤ cond b value 0) (sym is) (omega arith)
    by false is = omega arith

not-lt : (a b : ℕ) → not (nat_lt a b) ≡ nat_le b a
not-lt a b = by (nat_lt a b) refl
  where
    by : (t : Bool) → nat_lt a b ≡ t → not t ≡ nat_le b a
    by true is = let lt = ltb-true a b is in sym (lt-leb b a lt)
    by false is = sym (le-leb b a (ltb-false a b is))

turned-le : (a b N : ℕ) → a ≤ N → b ≤ N → nat_le b a ≡ nat_le (N - a) (N - b)
turned-le a b N low high = by (nat_le b a) refl
  where
    by : (t : Bool) → nat_le b a ≡ t → t ≡ nat_le (N - a) (N - b)
    by true is = let le = leb-true b a is in sym (le-leb (N - a) (N - b) (omega (arith, le, low, high)))
    by false is = let lt = leb-false b a is in sym (lt-leb (N - a) (N - b) (omega (arith, lt, low, high)))

-- The tests of a definition, in the order of the program.
gated : (b s r x x' c c' : Bool) → b ≡ true → (s ≡ true → x ≡ x') → (s ≡ true → c ≡ c')
    → ((b && (s && r)) && (x && c)) ≡ ((s && (r && x')) && c')
gated b true r x x' c c' is first second =
    ap (λ b. (b && r) && (x && c)) is
    ∙ ap₂ (λ x c. r && (x && c)) (first refl) (second refl)
    ∙ sym (and_assoc r x' c')
gated b false r x x' c c' is first second = ap (λ b. (b && false) && (x && c)) is

module _ (commands : List Stamped) (t : ℕ) where
  abbrev H : History
  H = history_of commands

  abbrev P : List Placement
  P = placements_of (history_of commands)

  abbrev N : ℕ
  N = length commands

  abbrev R : Placement → ℕ
  R p = restarted_by commands p

  restarted-low : (p : Placement) → R p ≤ p.number
  restarted-low p =
      let none : is_restarted H p.machine p.slot p.number p.number ≡ false =
      list_any_none (λ (e : Entry). (nat_lt p.number e.number && nat_lt e.number p.number)
      && restarts p.machine p.slot e.stamped.command) H
      (λ k d lt. never-between p.number (get_or H k d).number
      (restarts p.machine p.slot (get_or H k d).stamped.command)) in
      let low = ltb-false p.number (greatest_before (restart_marks commands) (ask_of p))
      (sym (restarted-since commands p.machine p.slot p.number p.number) ∙ none) in
      let same = best-value (restart_marks commands) (ask_of p) in
      omega (arith, low, same)

  restarted-rises : (p q : Placement) → p.number ≤ q.number → p.machine ≡ q.machine → p.slot ≡ q.slot → R p ≤ R q
  restarted-rises p q le machine slot =
      let marks = restart_marks commands in
      let first = best-value marks (ask_of p) in
      let second = best-value marks (ask_of q) in
      let moved : greatest_before marks (ask_of p) ≡ greatest (value_before q.machine q.slot p.number) marks =
      ap₂ (λ m s. greatest (value_before m s p.number) marks) machine slot in
      let rise : greatest (value_before q.machine q.slot p.number) marks ≤ greatest_before marks (ask_of q) =
      greatest-rises (value_before q.machine q.slot p.number) (value_before q.machine q.slot q.number)
      (λ m. value-rises q.machine q.slot p.number q.number m le) marks in
      omega (arith, first, second, moved, rise)

  -- No load or unload came between the pieces, the earlier one q.
  one-tape : (q p : Placement) → same_slot q p ≡ true
      → not (is_restarted H q.machine q.slot q.number p.number) ≡ nat_le (R p) q.number
  one-tape q p is =
      let names = slot-parts q p is in
      let marks = restart_marks commands in
      ap not (restarted-since commands q.machine q.slot q.number p.number)
      ∙ ap₂ (λ machine slot. not (nat_lt q.number (greatest (value_before machine slot p.number) marks)))
      names.0 names.1
      ∙ not-lt q.number (greatest_before marks (ask_of p))
      ∙ ap (λ k. nat_le k q.number) (sym (best-value marks (ask_of p)))

  -- ---- the first pieces of a reel

  abbrev fore : Placement → Spot
  fore p = spot_of p (restarted_by commands p)

  first-between : (q p : Placement) (before after : List Placement) → P ≡ before ++ p ∷ after
      → All (λ x. is_before x p ≡ true) before → All (λ x. is_before p x ≡ true) after → same_slot q p ≡ true
      → pieces_between H q p ≡ count_by (λ x. same_slot x p && is_before q x) (onto [] before)
  first-between q p before after whole low high at =
      let test : Placement → Bool = λ x. same_slot q x && (is_before q x && is_before x p) in
      let test' : Placement → Bool = λ x. same_slot x p && is_before q x in
      let off : (x : Placement) → is_before x p ≡ false → test x ≡ false =
      λ x is. ap (λ b. same_slot q x && (is_before q x && b)) is ∙ shut (same_slot q x) (is_before q x) in
      let all = ap (count_by test) whole ∙ count-append test before (p ∷ after) in
      let none = count-none test (p ∷ after) (All-cons (λ x. test x ≡ false) p after (off p (itself p))
      (All-weaker (λ x. is_before p x ≡ true) (λ x. test x ≡ false) (λ x is. off x (asymmetric p x is)) after high)) in
      let same = count-same (λ x. is_before x p ≡ true) test test'
      (λ x is. ap₂ (λ a b. a && b) (slot-through q p x at) (ap (λ b. is_before q x && b) is ∙ and-true (is_before q x)))
      before low in
      let turned = count-onto test' [] before in
      all ∙ ap (λ k. count_by test before + k) none ∙ plus-zero (count_by test before) ∙ same
      ∙ sym (turned ∙ zero-add (count_by test' before))
    where
      shut : (a b : Bool) → (a && (b && false)) ≡ false
      shut true true = refl
      shut true false = refl
      shut false b = refl

  first-near : (q p : Placement) (before after : List Placement) → P ≡ before ++ p ∷ after
      → All (λ x. is_before x p ≡ true) before → All (λ x. is_before p x ≡ true) after → is_before q p ≡ true
      → is_near H t q p ≡ ((same_slot q p && (not (same q.reel p.reel) && nat_le (R p) q.number))
      && nat_lt (0 + count_by (λ x. same_slot x p && is_before q x) (onto [] before)) t)
  first-near q p before after whole low high is = gated (is_before q p) (same_slot q p) (not (same q.reel p.reel))
      (not (is_restarted H q.machine q.slot q.number p.number)) (nat_le (R p) q.number)
      (nat_lt (pieces_between H q p) t)
      (nat_lt (0 + count_by (λ x. same_slot x p && is_before q x) (onto [] before)) t) is (one-tape q p)
      (λ at. ap (λ k. nat_lt k t) (first-between q p before after whole low high at
      ∙ sym (zero-add (count_by (λ x. same_slot x p && is_before q x) (onto [] before)))))

  first-told : (p : Placement) (before after : List Placement) → P ≡ before ++ p ∷ after
      → All (λ x. is_before x p ≡ true) before → All (λ x. is_before p x ≡ true) after
      → Falls is_before (onto [] before)
      → is_close t (run_of t p.machine p.slot (map fore (onto [] before))) (fore p)
      ≡ list_any (λ q. is_near H t q p) P
  first-told p before after whole low high falls =
      close-told is_before fore t (fore p) asymmetric itself
      (λ y x is at_y at_x. numbers-rise y x is) (onto [] before) falls
      ∙ any-same-where (λ q. is_before q p ≡ true)
      (λ q. (same_slot q p && (not (same q.reel p.reel) && nat_le (R p) q.number))
      && nat_lt (0 + count_by (λ x. same_slot x p && is_before q x) (onto [] before)) t) test
      (λ q is. sym (first-near q p before after whole low high is)) (onto [] before)
      (All-onto (λ q. is_before q p ≡ true) [] before (All-nil (λ q. is_before q p ≡ true)) low)
      ∙ any-onto test [] before
      ∙ sym (ap (list_any test) whole
      ∙ list_any-append test before (p ∷ after)
      ∙ ap (λ b. list_any test before || b) (list_any_none test (p ∷ after)
      (All-cons (λ q. test q ≡ false) p after (off p (itself p))
      (All-weaker (λ q. is_before p q ≡ true) (λ q. test q ≡ false) (λ q is. off q (asymmetric p q is)) after high)))
      ∙ or-false (list_any test before))
    where
      test : Placement → Bool
      test q = is_near H t q p

      off : (q : Placement) → is_before q p ≡ false → test q ≡ false
      off q is = ap (λ b. (b && (same_slot q p && not (same q.reel p.reel)))
          && (not (is_restarted H q.machine q.slot q.number p.number) && nat_lt (pieces_between H q p) t)) is

  all-first : (ps before : List Placement) → P ≡ before ++ ps → Falls is_before (onto [] before)
      → All (λ y. All (λ z. is_before y z ≡ true) ps) before → Falls is_behind ps
      → close_flags t (map fore (onto [] before)) (map fore ps) ≡ map (λ p. list_any (λ q. is_near H t q p) P) ps
  all-first [] before whole falls low ascend = refl
  all-first (p ∷ ps) before whole falls low ascend =
      let each : Placement → Type 0 = λ y. All (λ z. is_before y z ≡ true) (p ∷ ps) in
      let heads = All-weaker each (λ y. is_before y p ≡ true)
      (λ y is. All-head (λ z. is_before y z ≡ true) p ps is) before low in
      ap₂ (λ b l. b ∷ l) (first-told p before ps whole heads ascend.0 falls)
      (ap (λ met. close_flags t (map fore met) (map fore ps)) (sym (onto-last [] before p))
      ∙ all-first ps (before ++ p ∷ []) (whole ∙ sym (append_assoc before (p ∷ []) ps))
      (subst (Falls is_before) (sym (onto-last [] before p))
      (All-onto (λ y. is_before y p ≡ true) [] before (All-nil (λ y. is_before y p ≡ true)) heads, falls))
      (All-append (λ y. All (λ z. is_before y z ≡ true) ps) before (p ∷ [])
      (All-weaker each (λ y. All (λ z. is_before y z ≡ true) ps)
      (λ y is. All-tail (λ z. is_before y z ≡ true) p ps is) before low)
      (All-cons (λ y. All (λ z. is_before y z ≡ true) ps) p [] ascend.0
      (All-nil (λ y. All (λ z. is_before y z ≡ true) ps)))) ascend.1)

  -- ---- the last pieces of a reel

  abbrev back : Placement → Spot
  back p = spot_from_end (length commands) p (restarted_by commands p)

  last-between : (p q : Placement) (before after : List Placement) → P ≡ before ++ p ∷ after
      → All (λ x. is_before x p ≡ true) before → All (λ x. is_before p x ≡ true) after
      → pieces_between H p q ≡ count_by (λ x. same_slot x p && is_behind q x) after
  last-between p q before after whole low high =
      let test : Placement → Bool = λ x. same_slot p x && (is_before p x && is_before x q) in
      let test' : Placement → Bool = λ x. same_slot x p && is_behind q x in
      let off : (x : Placement) → is_before p x ≡ false → test x ≡ false =
      λ x is. ap (λ b. same_slot p x && (b && is_before x q)) is ∙ shut (same_slot p x) in
      let all = ap (count_by test) whole ∙ count-append test before (p ∷ after) in
      let none = count-none test before (All-weaker (λ x. is_before x p ≡ true) (λ x. test x ≡ false)
      (λ x is. off x (asymmetric x p is)) before low) in
      let first = count-cons test p after ∙ ap (λ b. cond b 1 0 + count_by test after) (off p (itself p)) in
      let same = count-same (λ x. is_before p x ≡ true) test test'
      (λ x is. ap₂ (λ a b. a && (b && is_before x q)) (slot-sym p x) is) after high in
      all ∙ ap₂ (λ a b. a + b) none first ∙ zeros-plus (count_by test after) ∙ same
    where
      shut : (a : Bool) → (a && false) ≡ false
      shut true = refl
      shut false = refl

  last-near : (p q : Placement) (before after : List Placement) → P ≡ before ++ p ∷ after
      → All (λ x. is_before x p ≡ true) before → All (λ x. is_before p x ≡ true) after → is_before p q ≡ true
      → p.number ≤ N → q.number ≤ N
      → is_near H t p q ≡ ((same_slot q p && (not (same q.reel p.reel) && nat_le (N - p.number) (N - R q)))
      && nat_lt (0 + count_by (λ x. same_slot x p && is_behind q x) after) t)
  last-near p q before after whole low high is p_le q_le =
      ap₂ (λ s r. (is_before p q && (s && not r))
      && (not (is_restarted H p.machine p.slot p.number q.number) && nat_lt (pieces_between H p q) t))
      (slot-sym p q) (same-sym p.reel q.reel)
      ∙ gated (is_before p q) (same_slot q p) (not (same q.reel p.reel))
      (not (is_restarted H p.machine p.slot p.number q.number)) (nat_le (N - p.number) (N - R q))
      (nat_lt (pieces_between H p q) t) (nat_lt (0 + count_by (λ x. same_slot x p && is_behind q x) after) t) is
      (λ at. one-tape p q (slot-sym p q ∙ at) ∙ turned-le p.number (R q) N p_le
      (let restarted = restarted-low q in omega (arith, restarted, q_le)))
      (λ at. ap (λ k. nat_lt k t) (last-between p q before after whole low high
      ∙ sym (zero-add (count_by (λ x. same_slot x p && is_behind q x) after))))

  last-told : (p : Placement) (before after : List Placement) → P ≡ before ++ p ∷ after
      → All (λ x. is_before x p ≡ true) before → Falls is_behind (p ∷ after)
      → All (λ (x : Placement). (0 < x.number) × (x.number ≤ N)) (p ∷ after)
      → is_close t (run_of t p.machine p.slot (map back after)) (back p) ≡ list_any (λ q. is_near H t p q) P
  last-told p before after whole low ascend within =
      close-told is_behind back t (back p) (λ x y is. asymmetric y x is) itself
      (λ y x is at_y at_x. let rise = kept y x is at_y at_x in omega (arith, rise)) after ascend.1
      ∙ any-same-where (λ q. (is_before p q ≡ true) × ((0 < q.number) × (q.number ≤ N)))
      (λ q. (same_slot q p && (not (same q.reel p.reel) && nat_le (N - p.number) (N - R q)))
      && nat_lt (0 + count_by (λ x. same_slot x p && is_behind q x) after) t) test
      (λ q is. sym (last-near p q before after whole low ascend.0 is.0 here is.1.1)) after
      (λ k d lt. (
        ascend.0 k d lt,
        All-tail (λ (x : Placement). (0 < x.number) × (x.number ≤ N)) p after within k d lt,
      ))
      ∙ sym (ap (list_any test) whole
      ∙ list_any-append test before (p ∷ after)
      ∙ ap₂ (λ a b. a || (b || list_any test after)) (list_any_none test before
      (All-weaker (λ q. is_before q p ≡ true) (λ q. test q ≡ false) (λ q is. off q (asymmetric q p is)) before low))
      (off p (itself p)))
    where
      test : Placement → Bool
      test q = is_near H t p q

      here : p.number ≤ N
      here = (All-head (λ (x : Placement). (0 < x.number) × (x.number ≤ N)) p after within).1

      off : (q : Placement) → is_before p q ≡ false → test q ≡ false
      off q is = ap (λ b. (b && (same_slot p q && not (same p.reel q.reel)))
          && (not (is_restarted H p.machine p.slot p.number q.number) && nat_lt (pieces_between H p q) t)) is

      kept : (y x : Placement) → is_before x y ≡ true → same_slot y p ≡ true → same_slot x p ≡ true → R x ≤ R y
      kept y x is at_y at_x =
          let first = slot-parts x p at_x in
          let second = slot-parts y p at_y in
          restarted-rises x y (numbers-rise x y is) (first.0 ∙ sym second.0) (first.1 ∙ sym second.1)

  all-last : (ps before : List Placement) → P ≡ before ++ ps
      → All (λ y. All (λ z. is_before y z ≡ true) ps) before → Falls is_behind ps
      → All (λ (x : Placement). (0 < x.number) × (x.number ≤ N)) ps
      → flags_behind t (map back ps) ≡ map (λ p. list_any (λ q. is_near H t p q) P) ps
  all-last [] before whole low ascend within = refl
  all-last (p ∷ ps) before whole low ascend within =
      let each : Placement → Type 0 = λ y. All (λ z. is_before y z ≡ true) (p ∷ ps) in
      ap₂ (λ b l. b ∷ l)
      (last-told p before ps whole (All-weaker each (λ y. is_before y p ≡ true)
      (λ y is. All-head (λ z. is_before y z ≡ true) p ps is) before low) ascend within)
      (all-last ps (before ++ p ∷ []) (whole ∙ sym (append_assoc before (p ∷ []) ps))
      (All-append (λ y. All (λ z. is_before y z ≡ true) ps) before (p ∷ [])
      (All-weaker each (λ y. All (λ z. is_before y z ≡ true) ps)
      (λ y is. All-tail (λ z. is_before y z ≡ true) p ps is) before low)
      (All-cons (λ y. All (λ z. is_before y z ≡ true) ps) p [] ascend.0
      (All-nil (λ y. All (λ z. is_before y z ≡ true) ps)))) ascend.1
      (All-tail (λ (x : Placement). (0 < x.number) × (x.number ≤ N)) p ps within))

  -- ---- all pieces

  pub first-are : (placed : List Placement) → placed ≡ P
      → close_flags t [] (map fore placed) ≡ map (λ p. list_any (λ q. is_near H t q p) P) placed
  first-are placed whole =
      subst (λ ps. close_flags t [] (map fore ps) ≡ map (λ p. list_any (λ q. is_near H t q p) P) ps) (sym whole)
      (all-first P [] refl tt (All-nil (λ y. All (λ z. is_before y z ≡ true) P)) (placements-ascend commands))

  pub last-are : (placed : List Placement) → placed ≡ P
      → reverse (close_flags t [] (reverse (map back placed))) ≡ map (λ p. list_any (λ q. is_near H t p q) P) placed
  last-are placed whole =
      flags-reversed t (map back placed)
      ∙ subst (λ ps. flags_behind t (map back ps) ≡ map (λ p. list_any (λ q. is_near H t p q) P) ps) (sym whole)
      (all-last P [] refl (All-nil (λ y. All (λ z. is_before y z ≡ true) P)) (placements-ascend commands)
      (pieces-within (length commands) P (placements-rise commands)))

-- Counting minutes.
use Rattle.desk_types.proofs.Common.{◌++◌, ◌+◌, ◌-◌, ◌<◌, ◌∙◌, ◌∷◌, ◌≡◌, ◌≤◌, ap, arith, Bool, cond, count_by}
use Rattle.desk_types.proofs.Common.{false, minutes_between, range_with_len, refl, suc, sum_by-append}
use Rattle.desk_types.proofs.Common.{sum_by-cons, sym, true, zero, zero-add, ℕ}
use Rattle.std.proofs.Common.{add-zero}

range-add : (a m n : ℕ) → range_with_len a (m + n) ≡ range_with_len a m ++ range_with_len (a + m) n
range-add a zero n = ap (range_with_len a) (zero-add n) ∙ ap (λ b. range_with_len b n) (sym (add-zero a))
range-add a (suc m) n = ap (range_with_len a) one_more ∙ ap (λ l. a ∷ l) (range-add (a + 1) m n ∙ ap (λ b. range_with_len (a + 1) m ++ range_with_len b n) one_on)
  where
    one_more : suc m + n ≡ suc (m + n)
    one_more = omega arith

    one_on : a + 1 + m ≡ a + suc m
    one_on = omega arith

pub count-split : (p : ℕ → Bool) (from mid to : ℕ) → from ≤ mid → mid ≤ to
    → count_by p (minutes_between from to) ≡ count_by p (minutes_between from mid) + count_by p (minutes_between mid to)
count-split p from mid to low high =
    ap (λ n. count_by p (range_with_len from n)) parts
    ∙ ap (count_by p) (range-add from (mid - from) (to - mid))
    ∙ sum_by-append (λ t. cond (p t) 1 0) (range_with_len from (mid - from)) (range_with_len (from + (mid - from)) (to - mid))
    ∙ ap (λ a. count_by p (minutes_between from mid) + count_by p (range_with_len a (to - mid))) there
  where
    parts : to - from ≡ (mid - from) + (to - mid)
    parts = omega arith

    there : from + (mid - from) ≡ mid
    there = omega arith

range-agree : (p q : ℕ → Bool) (a n : ℕ) → ((t : ℕ) → a ≤ t → t < a + n → p t ≡ q t) → count_by p (range_with_len a n) ≡ count_by q (range_with_len a n)
range-agree p q a zero agree = refl
range-agree p q a (suc n) agree =
    sum_by-cons (λ t. cond (p t) 1 0) a (range_with_len (a + 1) n)
    ∙ ap (λ b. cond b 1 0 + count_by p (range_with_len (a + 1) n)) (agree a (omega arith) (omega arith))
    ∙ ap (λ k. cond (q a) 1 0 + k) (range-agree p q (a + 1) n (λ t low high. agree t (omega arith) (omega arith)))
    ∙ sym (sum_by-cons (λ t. cond (q t) 1 0) a (range_with_len (a + 1) n))

pub count-agree : (p q : ℕ → Bool) (from to : ℕ) → ((t : ℕ) → from ≤ t → t < to → p t ≡ q t) → count_by p (minutes_between from to) ≡ count_by q (minutes_between from to)
count-agree p q from to agree = range-agree p q from (to - from) (λ t low high. agree t low (omega arith))

range-one : (b : Bool) (a n : ℕ) → count_by (λ t. b) (range_with_len a n) ≡ cond b n 0
range-one true a zero = refl
range-one false a zero = refl
range-one true a (suc n) = sum_by-cons (λ t. 1) a (range_with_len (a + 1) n) ∙ ap (λ k. 1 + k) (range-one true (a + 1) n) ∙ omega arith
range-one false a (suc n) = sum_by-cons (λ t. 0) a (range_with_len (a + 1) n) ∙ ap (λ k. 0 + k) (range-one false (a + 1) n)

pub count-one : (p : ℕ → Bool) (b : Bool) (from to : ℕ) → ((t : ℕ) → from ≤ t → t < to → p t ≡ b) → count_by p (minutes_between from to) ≡ cond b (to - from) 0
count-one p b from to one = count-agree p (λ t. b) from to one ∙ range-one b from (to - from)

-- What the commands of a history mark.
use Rattle.desk_types.proofs.Common.{[], ◌&&◌, ◌+◌, ◌++◌, ◌==◌, ◌∙◌, ◌∷◌, ◌≡◌, ◌||◌, accept, and-false, ap, arith, Bool, false}
use Rattle.desk_types.proofs.Common.{filter_map, History, length, list_any, list_any-append, List, max, Name, nat_lt, None, Option}
use Rattle.desk_types.proofs.Common.{option_to_list, or-false, refl, reverse, reverse-append, Some, subst, sym, true, ℕ}
use Rattle.desk_types.specs.declared.command.Entry.{Entry}
use Rattle.desk_types.specs.declared.command.Stamped.{Stamped}
use Rattle.std.specs.List.{cons_option}
use Rattle.line_book.specs.Restored.{history_from}
use Rattle.line_doubt.specs.declared.mark.Ask.{Ask}
use Rattle.line_doubt.specs.declared.mark.Mark.{Mark}
use Rattle.line_doubt.specs.Marks.{MarksRise}
use Rattle.line_doubt.specs.Sources.{marks_by}
use Rattle.line_doubt.proofs.Greatest.{greatest, is_mark, never, value_before, zero-max}
use Rattle.line_doubt.proofs.Lists.{or-first}
use Rattle.line_doubt.proofs.Rising.{rise-lower}

-- What a possible mark says of the slot before the place.
abbrev pub said : Name → Name → ℕ → Option Mark → ℕ
said machine slot to None = 0
said machine slot to (Some m) = value_before machine slot to m

pub greatest-kept : (machine slot : Name) (to : ℕ) (o : Option Mark) (ms : List Mark)
    → greatest (value_before machine slot to) (cons_option o ms)
    ≡ max (said machine slot to o) (greatest (value_before machine slot to) ms)
greatest-kept machine slot to None ms = sym (zero-max (greatest (value_before machine slot to) ms))
greatest-kept machine slot to (Some m) ms = refl

pub greatest-chosen : {X : Type 0} (f : X → Option Mark) (machine slot : Name) (to : ℕ) (xs : List X)
    → greatest (λ x. said machine slot to (f x)) xs ≡ greatest (value_before machine slot to) (filter_map f xs)
greatest-chosen f machine slot to [] = refl
greatest-chosen f machine slot to (x ∷ xs) =
    ap (max (said machine slot to (f x))) (greatest-chosen f machine slot to xs)
    ∙ sym (greatest-kept machine slot to (f x) (filter_map f xs))

-- The greatest of the entries of a history, from what its commands mark.
pub greatest-of : (mark : ℕ → Stamped → Option Mark) (machine slot : Name) (to n : ℕ) (H : History) (ss : List Stamped)
    → n ≡ length H + 1
    → greatest (λ (e : Entry). said machine slot to (mark e.number e.stamped)) (history_from H ss)
    ≡ max (greatest (λ (e : Entry). said machine slot to (mark e.number e.stamped)) H)
    (greatest (value_before machine slot to) (marks_by mark n ss))
greatest-of mark machine slot to n H [] is = omega arith
greatest-of mark machine slot to n H (s ∷ ss) is =
    let later : greatest (λ (e : Entry). said machine slot to (mark e.number e.stamped)) (history_from (accept H s) ss)
    ≡ max (max (said machine slot to (mark (length H + 1) s))
    (greatest (λ (e : Entry). said machine slot to (mark e.number e.stamped)) H))
    (greatest (value_before machine slot to) (marks_by mark (n + 1) ss)) =
    greatest-of mark machine slot to (n + 1) (accept H s) ss (omega (arith, is)) in
    let here : said machine slot to (mark (length H + 1) s) ≡ said machine slot to (mark n s) =
    ap (λ k. said machine slot to (mark k s)) (sym is) in
    let kept = greatest-kept machine slot to (mark n s) (marks_by mark (n + 1) ss) in
    omega (arith, later, here, kept)

-- ---- a mark that passes a test

-- Whether there is a mark, and it passes the test.
abbrev pub told : (Mark → Bool) → Option Mark → Bool
told P None = false
told P (Some m) = P m

any-kept : (P : Mark → Bool) (o : Option Mark) (ms : List Mark)
    → list_any P (cons_option o ms) ≡ (told P o || list_any P ms)
any-kept P None ms = refl
any-kept P (Some m) ms = refl

pub any-chosen : {X : Type 0} (f : X → Option Mark) (P : Mark → Bool) (xs : List X)
    → list_any (λ x. told P (f x)) xs ≡ list_any P (filter_map f xs)
any-chosen f P [] = refl
any-chosen f P (x ∷ xs) = ap (λ b. told P (f x) || b) (any-chosen f P xs) ∙ sym (any-kept P (f x) (filter_map f xs))

-- Some entry of a history has such a mark exactly if its commands have.
pub any-of : (mark : ℕ → Stamped → Option Mark) (P : Mark → Bool) (n : ℕ) (H : History) (ss : List Stamped)
    → n ≡ length H + 1
    → list_any (λ (e : Entry). told P (mark e.number e.stamped)) (history_from H ss)
    ≡ (list_any (λ (e : Entry). told P (mark e.number e.stamped)) H || list_any P (marks_by mark n ss))
any-of mark P n H [] is = sym (or-false (list_any (λ (e : Entry). told P (mark e.number e.stamped)) H))
any-of mark P n H (s ∷ ss) is =
    any-of mark P (n + 1) (accept H s) ss (omega (arith, is))
    ∙ or-first (told P (mark (length H + 1) s)) before later
    ∙ ap (λ k. before || (told P (mark k s) || later)) (sym is)
    ∙ ap (λ b. before || b) (sym (any-kept P (mark n s) (marks_by mark (n + 1) ss)))
  where
    before : Bool
    before = list_any (λ (e : Entry). told P (mark e.number e.stamped)) H

    later : Bool
    later = list_any P (marks_by mark (n + 1) ss)

pub any-reversed : (P : Mark → Bool) (ms : List Mark) → list_any P (reverse ms) ≡ list_any P ms
any-reversed P [] = refl
any-reversed P (m ∷ ms) =
    ap (list_any P) (reverse-append (m ∷ []) ms)
    ∙ list_any-append P (reverse ms) (m ∷ [])
    ∙ ap (λ b. b || (P m || false)) (any-reversed P ms)
    ∙ turned (P m) (list_any P ms)
  where
    turned : (a b : Bool) → (b || (a || false)) ≡ (a || b)
    turned true true = refl
    turned true false = refl
    turned false true = refl
    turned false false = refl

-- The number and the value, as a test of the mark.
pub numbered : (n k number : ℕ) (a : Ask) (o : Option Mark) → ((m : Mark) → o ≡ Some m → m.number ≡ number)
    → ((number == n) && nat_lt k (said a.machine a.slot a.at o)) ≡ told (is_mark n k a) o
numbered n k number a None is = ap (λ b. (number == n) && b) (never k) ∙ and-false (number == n)
numbered n k number a (Some m) is =
    ap (λ j. (j == n) && nat_lt k (value_before a.machine a.slot a.at m)) (sym (is m refl))

-- ---- the places of marks

pub marks-rise : (mark : ℕ → Stamped → Option Mark)
    → ((n : ℕ) (s : Stamped) (m : Mark) → mark n s ≡ Some m → m.at ≡ n)
    → (n : ℕ) (ss : List Stamped) → MarksRise n (marks_by mark n ss)
marks-rise mark at n [] = tt
marks-rise mark at n (s ∷ ss) = by (mark n s) (λ m is. at n s m is)
    (rise-lower (λ (m : Mark). m.at) n (n + 1) (marks_by mark (n + 1) ss) (omega arith) (marks-rise mark at (n + 1) ss))
  where
    by : (o : Option Mark) → ((m : Mark) → o ≡ Some m → m.at ≡ n) → MarksRise n (marks_by mark (n + 1) ss)
        → MarksRise n (cons_option o (marks_by mark (n + 1) ss))
    by None is rest = rest
    by (Some m) is rest = let here = is m refl in
        (omega (arith, here), subst (λ k. MarksRise k (marks_by mark (n + 1) ss)) (sym here) rest)

-- ---- one more command

kept-alone : {Y : Type 0} (o : Option Y) → cons_option o [] ≡ option_to_list o
kept-alone None = refl
kept-alone (Some m) = refl

kept-first : {Y : Type 0} (o : Option Y) (a b : List Y) → cons_option o (a ++ b) ≡ cons_option o a ++ b
kept-first None a b = refl
kept-first (Some m) a b = refl

pub marks-last : (mark : ℕ → Stamped → Option Mark) (n : ℕ) (xs : List Stamped) (s : Stamped)
    → marks_by mark n (xs ++ s ∷ []) ≡ marks_by mark n xs ++ option_to_list (mark (n + length xs) s)
marks-last mark n [] s = kept-alone (mark n s) ∙ ap (λ k. option_to_list (mark k s)) (omega arith)
marks-last mark n (x ∷ xs) s =
    ap (cons_option (mark n x)) (marks-last mark (n + 1) xs s)
    ∙ ap (λ k. cons_option (mark n x) (marks_by mark (n + 1) xs ++ option_to_list (mark k s))) (omega arith)
    ∙ kept-first (mark n x) (marks_by mark (n + 1) xs) (option_to_list (mark (n + length (x ∷ xs)) s))

pub chosen-last : {X Y : Type 0} (f : X → Option Y) (xs : List X) (x : X)
    → filter_map f (xs ++ x ∷ []) ≡ filter_map f xs ++ option_to_list (f x)
chosen-last f [] x = kept-alone (f x)
chosen-last f (y ∷ xs) x =
    ap (cons_option (f y)) (chosen-last f xs x) ∙ kept-first (f y) (filter_map f xs) (option_to_list (f x))

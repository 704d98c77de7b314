-- Bytes taken as a body.
use Rattle.desk_types.proofs.Common.{[], ◌++◌, ◌+◌, ◌<◌, ◌∙◌, ◌∷◌, ◌≡◌, ◌≤◌, ap, append-nil, append_assoc}
use Rattle.desk_types.proofs.Common.{arith, Consumes, drop, length, length-append, length-take, List, None}
use Rattle.desk_types.proofs.Common.{Option, prepend_known, Some, sym, take, take-append-add}
use Rattle.desk_types.proofs.Common.{take-append-drop, take-append-le, ℕ}
use borrow.Rule.Slice.PartMut.{post_of, put_mid}

pub split_front : (bytes pend front rest : List ℕ) (n : ℕ) → bytes ≡ pend → front ≡ take n bytes → rest ≡ drop n pend → pend ≡ front ++ rest
split_front bytes pend front rest n same first left =
    sym (take-append-drop n pend) ∙ ap (λ l. l ++ drop n pend) (ap (take n) (sym same) ∙ sym first) ∙ ap (λ l. front ++ l) (sym left)

pub body_goes : (xs front ys more : List ℕ) (a b : Option (List ℕ)) → xs ≡ front ++ ys → (0 < length more → ys ≡ []) → Consumes a b more
    → Consumes (prepend_known xs a) (prepend_known ys b) (front ++ more)
body_goes xs front ys more None b e none p = tt
body_goes xs front ys more (Some us) None e none p = absurd p
body_goes xs front ys [] (Some us) (Some vs) e none p =
    ap (λ l. l ++ us) e ∙ append_assoc front ys us ∙ ap (λ l. front ++ (ys ++ l)) p ∙ ap (λ l. l ++ (ys ++ vs)) (sym (append-nil front))
body_goes xs front ys (m ∷ ms) (Some us) (Some vs) e none p =
    let nil = none (omega arith) in
    ap (λ l. l ++ us) (e ∙ ap (λ l. front ++ l) nil ∙ append-nil front) ∙ ap (λ l. front ++ l) p ∙ sym (append_assoc front (m ∷ ms) vs) ∙ ap (λ l. (front ++ m ∷ ms) ++ (l ++ vs)) (sym nil)

pub all_goes : (xs front more : List ℕ) (a b : Option (List ℕ)) → xs ≡ front → Consumes a b more → Consumes (prepend_known xs a) b (front ++ more)
all_goes xs front more None b e p = tt
all_goes xs front more (Some us) None e p = absurd p
all_goes xs front more (Some us) (Some vs) e p = ap (λ l. l ++ us) e ∙ ap (λ l. front ++ l) p ∙ sym (append_assoc front more vs)

pub take-put_mid_some : (room more : List ℕ) (got k n : ℕ) → got ≤ length room → n ≤ length more → take (got + n) (put_mid got k room more) ≡ take got room ++ take n more
take-put_mid_some room more got k n le few =
    let e : length (take got room) ≡ got = omega (arith, length-take got room) in
    ap (λ m. take (m + n) (take got room ++ (more ++ post_of got k room))) (sym e)
    ∙ take-append-add (take got room) (more ++ post_of got k room) n
    ∙ ap (λ l. take got room ++ l) (take-append-le n more (post_of got k room) few)

pub put_mid_room : (room more : List ℕ) (got k n : ℕ) → got ≤ length room → n ≤ length more → got + n ≤ length (put_mid got k room more)
put_mid_room room more got k n le few =
    omega (arith, length-append (take got room) (more ++ post_of got k room), length-append more (post_of got k room), length-take got room)

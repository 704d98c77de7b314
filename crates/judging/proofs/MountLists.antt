-- Appending a reel to the list of live reels on slots.
use Rattle.desk_types.proofs.Common.{[], ◌++◌, ◌+◌, ◌<◌, ◌∙◌, ◌∷◌, ◌≡◌, ap, append_assoc, arith}
use Rattle.desk_types.proofs.Common.{enumerate_from, get_or, length, length-take-le, List, map, map-append}
use Rattle.desk_types.proofs.Common.{sym, take, take-next, ℕ}

enumerate-push : {X : Type 0} (n : ℕ) (xs : List X) (x : X) → enumerate_from n (xs ++ x ∷ []) ≡ enumerate_from n xs ++ (n + length xs, x) ∷ []
enumerate-push n [] x = let is : n ≡ n + 0 = omega arith in ap (λ k. (k, x) ∷ []) is
enumerate-push n (y ∷ ys) x =
    let is : n + 1 + length ys ≡ n + length (y ∷ ys) = omega arith in
    ap (λ es. (n, y) ∷ es) (enumerate-push (n + 1) ys x ∙ ap (λ k. enumerate_from (n + 1) ys ++ (k, x) ∷ []) is)

pub place-next : {X Y : Type 0} (f : ℕ × X → Y) (old now : List Y) (xs : List X) (i : ℕ) (x : X) → i < length xs → x ≡ get_or xs i x
    → now ≡ old ++ map f (enumerate_from 1 (take i xs)) → now ++ f (i + 1, x) ∷ [] ≡ old ++ map f (enumerate_from 1 (take (i + 1) xs))
place-next f old now xs i x inside at is =
    let places : i + 1 ≡ 1 + length (take i xs) = let l = length-take-le i xs (omega arith) in omega (arith, l) in
    let more = ap (λ ys. map f (enumerate_from 1 ys)) (take-next xs i x inside at)
    ∙ ap (map f) (enumerate-push 1 (take i xs) x)
    ∙ map-append f (enumerate_from 1 (take i xs)) ((1 + length (take i xs), x) ∷ []) in
    ap (λ ys. ys ++ f (i + 1, x) ∷ []) is
    ∙ append_assoc old (map f (enumerate_from 1 (take i xs))) (f (i + 1, x) ∷ [])
    ∙ ap (λ k. old ++ (map f (enumerate_from 1 (take i xs)) ++ f (k, x) ∷ [])) places
    ∙ ap (λ ys. old ++ ys) (sym more)

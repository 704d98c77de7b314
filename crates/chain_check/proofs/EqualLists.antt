-- Lists that have the same elements at each index.
use Rattle.desk_types.proofs.Common.{[], ◌<◌, ◌∷◌, ◌≡◌, arith, Bool, length, List, pointwise, refl, Some, suc}
use Rattle.desk_types.proofs.Common.{true, ℕ}
use Rattle.std.{proofs.lemmas.Bool.and_from as either-way, specs.List.slice_get}

pub gets-same : {X : Type 0} (xs ys : List X) → length xs ≡ length ys → ((k : ℕ) → k < length xs → slice_get xs k ≡ slice_get ys k) → xs ≡ ys
gets-same [] [] len all = refl
gets-same [] (y ∷ ys) len all = absurd (omega (arith, len))
gets-same (x ∷ xs) [] len all = absurd (omega (arith, len))
gets-same (x ∷ xs) (y ∷ ys) len all =
    let first : Some x ≡ Some y = all 0 (omega arith) in
    let rest = gets-same xs ys (omega (arith, len)) (λ k lt. all (suc k) (omega (arith, lt))) in
    cc

-- ---- lists that compare equal

pub lists-refl : {X : Type 0} (eq : X → X → Bool) → ((a : X) → eq a a ≡ true) → (xs : List X) → pointwise eq xs xs ≡ true
lists-refl eq told [] = refl
lists-refl eq told (x ∷ xs) = either-way (eq x x) (pointwise eq xs xs) (told x) (lists-refl eq told xs)

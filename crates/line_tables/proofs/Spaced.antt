-- Texts with a byte between each two of them.
use Rattle.desk_types.proofs.Common.{[], ◌++◌, ◌-◌, ◌<◌, ◌∙◌, ◌∷◌, ◌≡◌, ap, append-nil, arith, drop, flat_map}
use Rattle.desk_types.proofs.Common.{get_or, join_with_byte, length, List, sym, take, take_all, ℕ}

join_flat : (c : ℕ) (x : List ℕ) (xs : List (List ℕ)) → join_with_byte c (x ∷ xs) ≡ x ++ flat_map (λ y. c ∷ y) xs
join_flat c x [] = sym (append-nil x)
join_flat c x (y ∷ ys) = ap (λ rest. x ++ c ∷ rest) (join_flat c y ys)

pub join_parts : (c : ℕ) (xs : List (List ℕ)) (d : List ℕ) → 0 < length xs → get_or xs 0 d ++ flat_map (λ y. c ∷ y) (take (length xs - 1) (drop 1 xs)) ≡ join_with_byte c xs
join_parts c [] d some = absurd (omega (arith, some))
join_parts c (x ∷ xs) d some = ap (λ ys. x ++ flat_map (λ y. c ∷ y) ys) (take_all (length (x ∷ xs) - 1) xs (omega arith)) ∙ sym (join_flat c x xs)

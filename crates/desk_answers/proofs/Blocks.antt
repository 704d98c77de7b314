-- Bytes taken from a block.
use Rattle.desk_types.proofs.Common.{[], ◌++◌, ◌+◌, ◌-◌, ◌∙◌, ◌≡◌, ◌≤◌, ap, append_assoc, arith, Consumes}
use Rattle.desk_types.proofs.Common.{drop, IsAtEnd, length, List, None, Option, prepend_known, refl, Some}
use Rattle.desk_types.proofs.Common.{subst, sym, take, ℕ}
use Rattle.std.{proofs.lemmas.List.take-take, specs.List.slice_range}

pub front_goes : (xs ys zs : List ℕ) (known : Option (List ℕ)) → xs ≡ ys ++ zs → Consumes (prepend_known xs known) (prepend_known zs known) ys
front_goes xs ys zs None e = tt
front_goes xs ys zs (Some ws) e = ap (λ l. l ++ ws) e ∙ append_assoc ys zs ws

pub none_pending : (xs : List ℕ) (known : Option (List ℕ)) → xs ≡ [] → prepend_known xs known ≡ known
none_pending xs None e = refl
none_pending xs (Some ws) e = ap (λ l. Some (l ++ ws)) e

pub at_end : (xs : List ℕ) (known : Option (List ℕ)) → xs ≡ [] → IsAtEnd known → IsAtEnd (prepend_known xs known)
at_end xs known e p = subst IsAtEnd (sym (none_pending xs known e)) p

pub first_pending : (bytes xs : List ℕ) (at n : ℕ) → xs ≡ slice_range bytes at (at + length xs) → n ≤ length xs → slice_range bytes at (at + n) ≡ take n xs
first_pending bytes xs at n e few =
    let all : at + length xs - at ≡ length xs = omega arith in
    let some : at + n - at ≡ n = omega arith in
    ap (λ m. take m (drop at bytes)) some ∙ sym (take-take n (length xs) (drop at bytes) few) ∙ ap (take n) (sym (e ∙ ap (λ m. take m (drop at bytes)) all))

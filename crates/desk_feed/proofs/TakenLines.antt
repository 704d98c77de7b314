-- Bytes taken as a line.
use Rattle.desk_types.proofs.Common.{[], ◌++◌, ◌+◌, ◌<◌, ◌∙◌, ◌∷◌, ◌≡◌, ap, append-nil, append_assoc, arith}
use Rattle.desk_types.proofs.Common.{Consumes, drop, drop_all, get_or, length, List, Option, prepend_known}
use Rattle.desk_types.proofs.Common.{sym, take, take-append-drop, ℕ}
use Rattle.desk_answers.proofs.Blocks.{front_goes}
use Rattle.std.proofs.lemmas.List.{drop_more}

cut_at : (xs : List ℕ) (n : ℕ) → n < length xs → get_or xs n 0 ≡ 10 → xs ≡ (take n xs ++ 10 ∷ []) ++ drop (n + 1) xs
cut_at xs n lt e =
    sym (take-append-drop n xs) ∙ ap (λ l. take n xs ++ l) (drop_more xs n 0 lt ∙ ap (λ b. b ∷ drop (n + 1) xs) e) ∙ sym (append_assoc (take n xs) (10 ∷ []) (drop (n + 1) xs))

pub line_goes : (bytes pend rest : List ℕ) (n : ℕ) (known : Option (List ℕ)) → bytes ≡ pend → n < length bytes → get_or bytes n 0 ≡ 10 → rest ≡ drop (n + 1) pend
    → Consumes (prepend_known pend known) (prepend_known rest known) (take n bytes ++ 10 ∷ [])
line_goes bytes pend rest n known same lt e is =
    front_goes pend (take n bytes ++ 10 ∷ []) rest known (sym same ∙ cut_at bytes n lt e ∙ ap (λ l. (take n bytes ++ 10 ∷ []) ++ l) (ap (drop (n + 1)) same ∙ sym is))

pub all_goes : (bytes pend rest : List ℕ) (known : Option (List ℕ)) → bytes ≡ pend → rest ≡ drop (length bytes) pend → Consumes (prepend_known pend known) (prepend_known rest known) bytes
all_goes bytes pend rest known same is =
    front_goes pend bytes rest known (sym same ∙ sym (append-nil bytes) ∙ ap (λ l. bytes ++ l) (sym (is ∙ drop_all (length bytes) pend (omega (arith, ap length same)))))

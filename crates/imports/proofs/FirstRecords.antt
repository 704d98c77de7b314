-- Records read one by one are the first of all records.
use Rattle.desk_types.proofs.Common.{[], ◌∙◌, ◌∷◌, ◌≡◌, ◌≤◌, ◌⊎◌, ap, arith, inl, inr, length, List, None}
use Rattle.desk_types.proofs.Common.{refl, subst, suc, sym, zero, ℕ}
use Rattle.csv.specs.{Machine.next_record, Reading.Reached, Reading.records_from, Reading.records_next}
use Rattle.csv.specs.{declared.parser.Config.Config, declared.parser.State.State}

pub first-of_reached : (cfg : Config) (n : ℕ) (s : State) (xs : List ℕ) (rows : List (List (List ℕ))) (s2 : State) (ys : List ℕ)
    → length rows ≤ n → Reached cfg s xs rows s2 ys → (next_record cfg s2 [] [] ys ≡ None) ⊎ (length rows ≡ n) → rows ≡ records_from cfg n s xs
unfolding Reached records_from
first-of_reached cfg zero s xs [] s2 ys fits h stop = refl
first-of_reached cfg zero s xs (r ∷ rows) s2 ys fits h stop = absurd (omega arith)
first-of_reached cfg (suc n) s xs [] s2 ys fits (e, d) (inl none) =
    subst (λ o. [] ≡ records_next (records_from cfg n) o) (sym (ap (λ z. next_record cfg z [] [] xs) e ∙ ap (λ z. next_record cfg s2 [] [] z) d ∙ none)) refl
first-of_reached cfg (suc n) s xs [] s2 ys fits h (inr same) = absurd (omega arith)
first-of_reached cfg (suc n) s xs (r ∷ rows) s2 ys fits (p, e, same, rest) stop =
    subst (λ o. r ∷ rows ≡ records_next (records_from cfg n) o) (sym e)
    (ap (λ x. x ∷ rows) same ∙ ap (λ l. p.0 ∷ l) (first-of_reached cfg n p.1 p.2 rows s2 ys (omega arith) rest (lower stop)))
  where
    lower : (next_record cfg s2 [] [] ys ≡ None) ⊎ (length (r ∷ rows) ≡ suc n) → (next_record cfg s2 [] [] ys ≡ None) ⊎ (length rows ≡ n)
    lower (inl none) = inl none
    lower (inr same) = inr (omega arith)

-- The minutes of entries by their numbers.
use Rattle.desk_types.proofs.Common.{[], ◌++◌, ◌+◌, ◌==◌, ◌∙◌, ◌∷◌, ◌≡◌, ◌≢◌, accept, ap, arith, Bool, cond}
use Rattle.desk_types.proofs.Common.{entry_of, eqb-true, false, find, History, length, length-append, List}
use Rattle.desk_types.proofs.Common.{refl, slice_get, Some, suc, true, zero, ℕ}
use Rattle.desk_laws.proofs.Common.{Entry, Stamped}
use Rattle.state_rows.specs.Lists.{minute_in, minute_of}
use Rattle.std.proofs.{Common.option_map, lemmas.Bool.eqb-false}

get-last : (xs : List ℕ) (x : ℕ) → slice_get (xs ++ x ∷ []) (length xs) ≡ Some x
get-last [] x = refl
get-last (y ∷ ys) x = get-last ys x

get-other : (xs : List ℕ) (x i : ℕ) → i ≢ length xs → slice_get (xs ++ x ∷ []) i ≡ slice_get xs i
get-other [] x zero other = absurd (other refl)
get-other [] x (suc i) other = refl
get-other (y ∷ ys) x zero other = refl
get-other (y ∷ ys) x (suc i) other = get-other ys x i (λ is. other (ap suc is))

minute-last : (ms : List ℕ) (m number : ℕ) → number ≡ length ms + 1 → minute_in (ms ++ m ∷ []) number ≡ Some m
minute-last ms m zero is = absurd (omega arith)
minute-last ms m (suc n) is = let at : n ≡ length ms = omega arith in ap (slice_get (ms ++ m ∷ [])) at ∙ get-last ms m

minute-other : (ms : List ℕ) (m number : ℕ) → number ≢ length ms + 1 → minute_in (ms ++ m ∷ []) number ≡ minute_in ms number
minute-other ms m zero other = refl
minute-other ms m (suc n) other = get-other ms m n (λ is. other (omega (arith, is)))

pub minutes-accepted : (H : History) (s : Stamped) (ms : List ℕ) (m : ℕ) → length ms ≡ length H → m ≡ (entry_of H s).effective
    → ((number : ℕ) → minute_in ms number ≡ minute_of H number) → (number : ℕ) → minute_in (ms ++ m ∷ []) number ≡ minute_of (accept H s) number
minutes-accepted H s ms m count is before number = by (length H + 1 == number) refl
  where
    by : (b : Bool) → (length H + 1 == number) ≡ b
        → minute_in (ms ++ m ∷ []) number ≡ option_map (λ (e : Entry). e.effective) (cond b (Some (entry_of H s)) (find (λ (e : Entry). e.number == number) H))
    by true at = let same : number ≡ length ms + 1 = omega (arith, eqb-true (length H + 1) number at, count) in minute-last ms m number same ∙ ap Some is
    by false at =
        let other : number ≢ length ms + 1 = λ same. eqb-false (length H + 1) number at (omega (arith, same, count)) in
        minute-other ms m number other ∙ before number

pub count-accepted : (H : History) (s : Stamped) (ms : List ℕ) (m : ℕ) → length ms ≡ length H → length (ms ++ m ∷ []) ≡ length (accept H s)
count-accepted H s ms m count = omega (arith, length-append ms (m ∷ []), count)

-- Reading the elements of a list up to the first fault.
use Rattle.desk_types.proofs.Common.{[], ◌++◌, ◌∷◌, ◌≡◌, Err, List, Ok, refl, Result}
use Rattle.cfx_profile.specs.Fault.{◌>>=◌}

unfoldable pub first_of_each : {X F : Type 0} → Result X F → Result (List X) F → Result (List X) F
first_of_each first rest = do
  x ← first
  xs ← rest
  Ok (x ∷ xs)

unfoldable pub both : {X F : Type 0} → Result (List X) F → Result (List X) F → Result (List X) F
both first second = do
  xs ← first
  ys ← second
  Ok (xs ++ ys)

pub both-nothing : {X F : Type 0} (r : Result (List X) F) → r ≡ both (Ok []) r
unfolding both
both-nothing (Ok ys) = refl
both-nothing (Err fault) = refl

pub both-first : {X F : Type 0} (first : Result X F) (rest later : Result (List X) F)
    → first_of_each first (both rest later) ≡ both (first_of_each first rest) later
unfolding both first_of_each
both-first (Err fault) rest later = refl
both-first (Ok x) (Err fault) later = refl
both-first (Ok x) (Ok xs) (Err fault) = refl
both-first (Ok x) (Ok xs) (Ok ys) = refl

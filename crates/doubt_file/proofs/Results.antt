-- Results under a condition.
use Rattle.desk_types.proofs.Common.{Err, IfOk, Ok, Result}

pub ok-if : {A E : Type 0} (r : Result A E) (H : Type 0) (P : A → Type 0) → (H → IfOk r P) → IfOk r (λ a. H → P a)
ok-if (Ok a) H P is = is
ok-if (Err e) H P is = tt

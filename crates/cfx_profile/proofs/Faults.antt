-- Faults passed on by callers.
use Rattle.desk_types.proofs.Common.{◌∙◌, ◌≡◌, ◌≢◌, ap, Err, IsErrAnd, Ok, Result, sym}
use Rattle.cfx_profile.specs.Fault.{IsSaidBut}

pub IsSaid-fault : {X F : Type 0} {want : F} (said answer : Result X F) (fault : F)
    → (fault ≢ want → said ≡ Err fault) → IsErrAnd answer (λ e. e ≡ fault) → IsSaidBut want said answer
IsSaid-fault said (Ok x) fault is handed = absurd handed
IsSaid-fault said (Err e) fault is handed = λ other. is (λ same. other (handed ∙ same)) ∙ ap Err (sym handed)

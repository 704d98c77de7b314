-- A fault of one part is that of the whole.
use Rattle.desk_types.proofs.Common.{◌≡◌, Option, Some}
use Rattle.desk_types.specs.declared.answer.Refusal.{Refusal}
use Rattle.desk_types.specs.declared.desk.JudgeFault.{JudgeFault}
use Rattle.desk_types.specs.declared.desk.JudgeFault.TheVariants.{Refused, NoMemory}
use Rattle.judging.specs.Placing.{IsTold}

pub told-of-all : (part all : Option Refusal) (fault : JudgeFault) → IsTold part fault
    → ((r : Refusal) → part ≡ Some r → all ≡ Some r) → IsTold all fault
told-of-all part all (Refused r) here first = first r here
told-of-all part all NoMemory here first = tt

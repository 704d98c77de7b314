-- Reading steps that may fail, and the results of calls.
use Rattle.std.specs.Prelude.{◌≡◌, ◌≢◌, Result, Ok, Err}
use Rattle.cfx_profile.specs.declared.fault.MessageFault.{MessageFault}
use Rattle.cfx_profile.specs.declared.fault.MessageFault.TheVariants.{NoMemory}

infixl 10 ◌>>=◌
-- The first fault, or else the next step on the value.
abbrev pub ◌>>=◌ : {X Y F : Type 0} → Result X F → (X → Result Y F) → Result Y F
Ok x >>= rest = rest x
Err fault >>= rest = Err fault

-- The result is the definition's, or the fault for out of memory.
abbrev pub IsSaidBut : {X F : Type 0} → F → Result X F → Result X F → Type 0
IsSaidBut want said (Ok x) = said ≡ Ok x
IsSaidBut want said (Err fault) = fault ≢ want → said ≡ Err fault

-- The same for a message's result.
abbrev pub IsSaid : {X : Type 0} → Result X MessageFault → Result X MessageFault → Type 0
IsSaid said answer = IsSaidBut NoMemory said answer

-- The results of calls that read a file.
use Rattle.std.specs.Prelude.{Result}
use Rattle.cfx_profile.specs.Fault.{IsSaidBut}
use Rattle.imports.specs.declared.fault.ImportFault.{ImportFault}
use Rattle.imports.specs.declared.fault.ImportFault.TheVariants.{NoMemory}

-- The result is the definition's, or out of memory.
abbrev pub IsSaid : {X : Type 0} → Result X ImportFault → Result X ImportFault → Type 0
IsSaid said answer = IsSaidBut NoMemory said answer

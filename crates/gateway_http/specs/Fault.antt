-- The results of calls that read a request.
use Rattle.std.specs.Prelude.{Result}
use Rattle.cfx_profile.specs.Fault.{IsSaidBut}
use Rattle.gateway_http.specs.declared.fault.AskFault.{AskFault}
use Rattle.gateway_http.specs.declared.fault.AskFault.TheVariants.{NoMemory}

-- The result is the definition's, or out of memory.
abbrev pub IsAsked : {X : Type 0} → Result X AskFault → Result X AskFault → Type 0
IsAsked asked answer = IsSaidBut NoMemory asked answer

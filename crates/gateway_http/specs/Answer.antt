-- Answers to requests that can't be read. Each is one compact JSON object with its members in byte
-- order of their names.
use Rattle.std.specs.Prelude.{ℕ, List, codes}
use Rattle.serde_json.specs.Data.{Data}
use Rattle.serde_json.specs.Written.{compact_text}
use Rattle.cfx_profile.specs.Answer.{faulty, faulty_at, not_found, unavailable}
use Rattle.gateway_http.specs.declared.fault.AskFault.{AskFault}
use Rattle.gateway_http.specs.declared.fault.AskFault.TheVariants.{NoPath, BadMethod, BadQuery, NoMemory}
use Rattle.gateway_http.specs.Parameter.{parameter_text}

-- The answer to a fault.
abbrev pub fault_answer : AskFault → Data
fault_answer NoPath = not_found (codes "Path")
fault_answer (BadMethod method) = faulty (codes "BadMethod")
fault_answer (BadQuery p) = faulty_at (codes "BadQuery") (parameter_text p)
fault_answer NoMemory = unavailable

unfoldable pub fault_text : AskFault → List ℕ
fault_text fault = compact_text (fault_answer fault)

-- Answers to rejected files. Each is one compact JSON object with its members in byte order of
-- their names.
use Rattle.std.specs.Prelude.{ℕ, List, codes}
use Rattle.serde_json.specs.Data.{Data, unsigned, string, number, object, member, no_members}
use Rattle.serde_json.specs.Written.{compact_text}
use Rattle.cfx_profile.specs.Answer.{faulty, unavailable}
use Rattle.imports.specs.declared.fault.ImportFault.{ImportFault}
use Rattle.imports.specs.declared.fault.ImportFault.TheVariants.{BadHeader, BadRow, BadField, OverLimit, NoMemory}

-- A fault of one record.
abbrev pub faulty_row : ℕ → Data
faulty_row line =
    object (member (codes "Answer") (string (codes "Faulty"))
    (member (codes "Fault") (string (codes "BadRow"))
    (member (codes "Line") (number (unsigned line)) no_members)))

-- A fault of one field.
abbrev pub faulty_field : ℕ → ℕ → Data
faulty_field line column =
    object (member (codes "Answer") (string (codes "Faulty"))
    (member (codes "Column") (number (unsigned column))
    (member (codes "Fault") (string (codes "BadField"))
    (member (codes "Line") (number (unsigned line)) no_members))))

abbrev pub fault_answer : ImportFault → Data
fault_answer BadHeader = faulty (codes "BadHeader")
fault_answer (BadRow line) = faulty_row line
fault_answer (BadField line column) = faulty_field line column
fault_answer OverLimit = faulty (codes "OverLimit")
fault_answer NoMemory = unavailable

unfoldable pub fault_text : ImportFault → List ℕ
fault_text fault = compact_text (fault_answer fault)

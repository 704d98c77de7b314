-- Answers to messages that aren't commands. Each is one compact JSON object with its members in
-- byte order of their names.
use Rattle.std.specs.Prelude.{⊤, ℕ, List, IsUtf8, codes}
use Rattle.serde_json.specs.Data.{Data, string, object, member, no_members}
use Rattle.serde_json.specs.Written.{compact_text}
use Rattle.cfx_profile.specs.declared.fault.MessageFault.{MessageFault}
use Rattle.cfx_profile.specs.declared.fault.MessageFault.TheVariants.{NotJson, NotObject, EnvelopeMember, BadTime, BodyMember, OverLimit, NoMemory}
use Rattle.cfx_profile.specs.declared.message.Said.{Said}
use Rattle.cfx_profile.specs.declared.message.Said.TheVariants.{Ignored, Asked}
use Rattle.cfx_profile.specs.Member.{member_text}

-- Out of memory.
abbrev pub unavailable : Data
unavailable = object (member (codes "Answer") (string (codes "Unavailable")) no_members)

-- Nothing of this kind was found.
abbrev pub not_found : List ℕ → Data
not_found kind =
    object (member (codes "Answer") (string (codes "NotFound"))
    (member (codes "Kind") (string kind) no_members))

-- A fault of the whole message.
abbrev pub faulty : List ℕ → Data
faulty fault =
    object (member (codes "Answer") (string (codes "Faulty"))
    (member (codes "Fault") (string fault) no_members))

-- A fault of one member.
abbrev pub faulty_at : List ℕ → List ℕ → Data
faulty_at fault key =
    object (member (codes "Answer") (string (codes "Faulty"))
    (member (codes "Fault") (string fault)
    (member (codes "Member") (string key) no_members)))

-- A message with another name.
abbrev pub ignored_object : List ℕ → Data
ignored_object name =
    object (member (codes "Answer") (string (codes "Ignored"))
    (member (codes "MessageName") (string name) no_members))

abbrev pub fault_answer : MessageFault → Data
fault_answer NotJson = faulty (codes "NotJson")
fault_answer NotObject = faulty (codes "NotObject")
fault_answer (EnvelopeMember m) = faulty_at (codes "EnvelopeMember") (member_text m)
fault_answer BadTime = faulty (codes "BadTime")
fault_answer (BodyMember m) = faulty_at (codes "BodyMember") (member_text m)
fault_answer (OverLimit m) = faulty_at (codes "OverLimit") (member_text m)
fault_answer NoMemory = unavailable

unfoldable pub fault_text : MessageFault → List ℕ
fault_text fault = compact_text (fault_answer fault)

-- The text of the answer to a message with another name.
unfoldable pub ignored_text : List ℕ → List ℕ
ignored_text name = compact_text (ignored_object name)

-- The text of the answer when out of memory.
abbrev pub unavailable_text : List ℕ
unavailable_text = compact_text unavailable

-- The name of an ignored message is UTF-8.
abbrev pub IsNamedByText : Said → Type 0
IsNamedByText (Ignored name) = IsUtf8 name
IsNamedByText (Asked stamped) = ⊤

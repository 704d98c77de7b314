-- Why a route's body isn't taken, and the answer to it.
use Rattle.std.specs.Prelude.{ℕ, List, codes}
use Rattle.serde_json.specs.Data.{Data}
use Rattle.serde_json.specs.Written.{compact_text}
use Rattle.cfx_profile.specs.Answer.{faulty, faulty_at, not_found, unavailable}
use Rattle.line_answers.specs.NotFound.{kind_word}
use Rattle.line_answers.specs.declared.fault.LineFault.{LineFault}
use Rattle.line_answers.specs.declared.fault.LineFault.TheVariants.{NotJson, NotObject, BodyMember, NotFound, NoMemory}
use Rattle.line_answers.specs.declared.member.Member.{Member}
use Rattle.line_answers.specs.declared.member.Member.TheVariants.{Of, Became, By, Reason, Hold, Release, Name}

abbrev pub member_text : Member → List ℕ
member_text Of = codes "Of"
member_text Became = codes "Became"
member_text By = codes "By"
member_text Reason = codes "Reason"
member_text Hold = codes "Hold"
member_text Release = codes "Release"
member_text Name = codes "Name"

abbrev pub fault_object : LineFault → Data
fault_object NotJson = faulty (codes "NotJson")
fault_object NotObject = faulty (codes "NotObject")
fault_object (BodyMember m) = faulty_at (codes "BodyMember") (member_text m)
fault_object (NotFound kind) = not_found (kind_word kind)
fault_object NoMemory = unavailable

-- The text of the answer to the fault.
unfoldable pub fault_text : LineFault → List ℕ
fault_text fault = compact_text (fault_object fault)

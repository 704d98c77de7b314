-- The entry that a faulty message makes.
use Rattle.std.specs.Prelude.{ℕ, Bool, true, Option, Some, None, List, [], ◌∷◌, codes, option_and_then, option_map, if◌then◌else◌}
use Rattle.std.specs.List.{list_any}
use Rattle.desk_types.specs.Id.{Name, same}
use Rattle.desk_types.specs.declared.stored_word.Word.{Word}
use Rattle.desk_types.specs.declared.stored_word.Word.TheVariants as word
use Rattle.cfx_profile.specs.declared.fault.MessageFault.{MessageFault}
use Rattle.cfx_profile.specs.declared.fault.MessageFault.TheVariants.{NotJson, NotObject, EnvelopeMember, BadTime, BodyMember, OverLimit, NoMemory}
use Rattle.cfx_profile.specs.declared.member.Member.TheVariants.{MessageName}
use Rattle.cfx_profile.specs.Forms.{text_at}
use Rattle.cfx_profile.specs.Message.{value_of}
use Rattle.cfx_profile.specs.Word.{message_name}
use Rattle.line_book.specs.declared.note.Matter.{Matter}
use Rattle.line_book.specs.declared.note.Matter.TheVariants.{Unread}

-- The name of the fault. Too little memory is no fault of the message.
abbrev pub fault_word : MessageFault → Option Name
fault_word NotJson = Some (codes "NotJson")
fault_word NotObject = Some (codes "NotObject")
fault_word (EnvelopeMember member) = Some (codes "EnvelopeMember")
fault_word BadTime = Some (codes "BadTime")
fault_word (BodyMember member) = Some (codes "BodyMember")
fault_word (OverLimit member) = Some (codes "OverLimit")
fault_word NoMemory = None

-- The kinds of messages that say what was done at a machine.
abbrev pub machine_words : List Word
machine_words = word.MaterialsLoaded ∷ word.MaterialsSpliced ∷ word.MaterialsUnloaded
    ∷ word.WorkStarted ∷ word.WorkCompleted ∷ word.MaterialsInstalled ∷ word.MaterialsScrapped ∷ []

-- The name that the message has, if one can be read.
abbrev pub name_in : List ℕ → Option (List ℕ)
name_in told = option_and_then (text_at MessageName) (value_of told)

-- Whether a faulty message with this name may say what was done at a machine. One without a name may.
abbrev pub may_be_done : Option (List ℕ) → Bool
may_be_done None = true
may_be_done (Some name) = list_any (λ w. same (message_name w) name) machine_words

-- The entry that the message with this fault makes.
abbrev pub faulty : List ℕ → MessageFault → Option Matter
faulty told fault =
    if may_be_done (name_in told) then option_map Unread (fault_word fault) else None

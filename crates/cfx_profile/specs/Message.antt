-- The content of a message's bytes.
use Rattle.std.specs.Prelude.{if◌then◌else◌, Option, Some, None, option_and_then, option_map, ok_or, Result, Ok, ℕ, List}
use Rattle.std.specs.Str.{is_utf8}
use Rattle.serde_json.specs.Data.{Data}
use Rattle.serde_json.specs.Find.{get, as_object}
use Rattle.serde_json.specs.Read.{read}
use Rattle.desk_types.specs.declared.command.Stamped.{Stamped}
use Rattle.desk_types.specs.Id.{Name}
use Rattle.cfx_profile.specs.declared.fault.MessageFault.{MessageFault}
use Rattle.cfx_profile.specs.declared.fault.MessageFault.TheVariants.{NotJson, NotObject, EnvelopeMember, BadTime}
use Rattle.cfx_profile.specs.declared.member.Member.{Member}
use Rattle.cfx_profile.specs.declared.member.Member.TheVariants.{MessageName, UniqueId, Source, TimeStamp, MessageBody}
use Rattle.cfx_profile.specs.declared.message.Said.{Said}
use Rattle.cfx_profile.specs.declared.message.Said.TheVariants.{Ignored, Asked}
use Rattle.desk_types.specs.declared.stored_word.Word.{Word}
use Rattle.cfx_profile.specs.Fault.{◌>>=◌}
use Rattle.cfx_profile.specs.Bodies.{command_in}
use Rattle.cfx_profile.specs.Forms.{text_at, id_at}
use Rattle.cfx_profile.specs.Member.{member_text}
use Rattle.cfx_profile.specs.Minute.{minute_of}
use Rattle.cfx_profile.specs.Word.{word_of}

-- The bytes' JSON value, if they are UTF-8.
unfoldable pub value_of : List ℕ → Option Data
value_of bytes = if is_utf8 bytes then read bytes else None

-- The value, if it is an object.
abbrev pub object_of : Data → Option Data
object_of d = option_map (λ _. d) (as_object d)

-- ---- the envelope

unfoldable pub envelope_text : Member → Data → Result (List ℕ) MessageFault
envelope_text m envelope = ok_or (text_at m envelope) (EnvelopeMember m)

unfoldable pub envelope_id : Member → Data → Result Name MessageFault
envelope_id m envelope = ok_or (id_at m envelope) (EnvelopeMember m)

unfoldable pub envelope_object : Member → Data → Result Data MessageFault
envelope_object m envelope =
    ok_or (option_and_then object_of (get (member_text m) envelope)) (EnvelopeMember m)

-- The minute of a time text.
unfoldable pub minute_in : List ℕ → Result ℕ MessageFault
minute_in time = ok_or (minute_of time) BadTime

-- The content of an envelope with one of our messages.
unfoldable pub stamped_in : Word → Data → Result Stamped MessageFault
stamped_in word envelope = do
  uid ← envelope_id UniqueId envelope
  source ← envelope_id Source envelope
  time ← envelope_text TimeStamp envelope
  body ← envelope_object MessageBody envelope
  minute ← minute_in time
  command ← command_in word body
  Ok (record { uid = uid; source = source; minute = minute; command = command })

-- ---- messages

-- A message with another name is ignored, whatever else it has.
abbrev pub said_under : List ℕ → Option Word → Data → Result Said MessageFault
said_under name None envelope = Ok (Ignored name)
said_under name (Some word) envelope = do
  stamped ← stamped_in word envelope
  Ok (Asked stamped)

-- The content of the bytes, or the first fault.
unfoldable pub said_in : List ℕ → Result Said MessageFault
said_in bytes = do
  value ← ok_or (value_of bytes) NotJson
  envelope ← ok_or (object_of value) NotObject
  name ← envelope_text MessageName envelope
  said_under name (word_of name) envelope

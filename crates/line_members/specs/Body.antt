-- The body of a message, with all its members.
use Rattle.std.specs.Prelude.{ℕ, Option, option_and_then, List}
use Rattle.serde_json.specs.Data.{Data}
use Rattle.serde_json.specs.Find.{get}
use Rattle.cfx_profile.specs.declared.member.Member.TheVariants.{MessageBody}
use Rattle.cfx_profile.specs.Member.{member_text}
use Rattle.cfx_profile.specs.Message.{value_of}

-- The message's body, if its bytes are JSON and have one. An accepted message has one.
abbrev pub body_in : List ℕ → Option Data
body_in told = option_and_then (get (member_text MessageBody)) (value_of told)

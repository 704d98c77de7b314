-- The bodies that a line's own routes read.
use Rattle.std.specs.Prelude.{ℕ, nat_lt, nat_le, Bool, true, false, not, ◌&&◌, ◌==◌, Option, Some, None, option_and_then, ok_or, Result, Ok, Err, List, length, codes, if◌then◌else◌}
use Rattle.std.specs.List.{list_all}
use Rattle.std.specs.Option.{option_map_or}
use Rattle.serde_json.specs.Data.{Data}
use Rattle.serde_json.specs.Find.{get, as_str, as_number, as_u64}
use Rattle.desk_types.specs.Id.{Name, same}
use Rattle.cfx_profile.specs.Fault.{◌>>=◌}
use Rattle.cfx_profile.specs.Forms.{id_of}
use Rattle.cfx_profile.specs.Message.{object_of, value_of}
use Rattle.line_book.specs.declared.note.Matter.{Matter}
use Rattle.line_book.specs.declared.note.Matter.TheVariants as matter
use Rattle.line_book.specs.declared.note.Stock.{Stock}
use Rattle.line_book.specs.declared.note.Stock.TheVariants as stock
use Rattle.line_answers.specs.Fault.{member_text}
use Rattle.line_answers.specs.declared.fault.LineFault.{LineFault}
use Rattle.line_answers.specs.declared.fault.LineFault.TheVariants.{NotJson, NotObject, BodyMember, NotFound}
use Rattle.line_answers.specs.declared.kind.Kind.TheVariants.{Entry}
use Rattle.line_answers.specs.declared.limits.TheConstants.{LONGEST_SAYING}
use Rattle.line_answers.specs.declared.member.Member.{Member}
use Rattle.line_answers.specs.declared.member.Member.TheVariants as member

-- The bytes as a JSON object.
unfoldable pub body_in : List ℕ → Result Data LineFault
body_in bytes = do
  value ← ok_or (value_of bytes) NotJson
  ok_or (object_of value) NotObject

-- ---- members

-- The member, if it is a text.
abbrev pub text_at : Member → Data → Option (List ℕ)
text_at m body = option_and_then as_str (get (member_text m) body)

-- Whether the byte is no control character of ASCII.
abbrev pub is_plain : ℕ → Bool
is_plain b = nat_le 0x20 b && not (b == 0x7f)

-- Whether a text may have so many bytes: 1 to 1,000.
abbrev pub is_length : ℕ → Bool
is_length n = nat_lt 0 n && nat_le n LONGEST_SAYING

-- Whether somebody may have said it.
abbrev pub is_saying : List ℕ → Bool
is_saying text = is_length (length text) && list_all is_plain text

abbrev pub has_saying : Member → Data → Bool
has_saying m body = option_map_or is_saying (text_at m body) false

-- The member has something that somebody said.
unfoldable pub saying_in : Member → Data → Result (Unit {0}) LineFault
saying_in m body = if has_saying m body then Ok tt else Err (BodyMember m)

-- A name, as in a message.
unfoldable pub name_in : Member → Data → Result Name LineFault
name_in m body = ok_or (option_and_then id_of (text_at m body)) (BodyMember m)

-- A whole number below 2^64, without sign, point or exponent.
unfoldable pub number_in : Member → Data → Result ℕ LineFault
number_in m body = ok_or
    (option_and_then as_u64 (option_and_then as_number (get (member_text m) body))) (BodyMember m)

-- ---- decisions

-- The decision about the entry with the number, if the book has so many entries.
abbrev pub decision_about : ℕ → ℕ → Result Matter LineFault
decision_about entries about = if nat_lt 0 about && nat_le about entries
    then Ok (matter.Decision about) else Err (NotFound Entry)

-- A decision: the number of the entry, what became of the boards, who says so, and why.
unfoldable pub decision_in : ℕ → Data → Result Matter LineFault
decision_in entries body = do
  about ← number_in member.Of body
  _ ← saying_in member.Became body
  _ ← saying_in member.By body
  _ ← saying_in member.Reason body
  decision_about entries about

-- The decision that the bytes say, in a book of so many entries, or the first fault.
unfoldable pub decision_said : ℕ → List ℕ → Result Matter LineFault
decision_said entries bytes = do
  body ← body_in bytes
  decision_in entries body

-- ---- holds

-- Whether the text says a lot, and not a reel.
abbrev pub is_lot_of : List ℕ → Option Bool
is_lot_of text = if same text (codes "lot") then Some true
    else if same text (codes "reel") then Some false else None

unfoldable pub is_lot_in : Member → Data → Result Bool LineFault
is_lot_in m body = ok_or (option_and_then is_lot_of (text_at m body)) (BodyMember m)

abbrev pub stock_of : Bool → Name → Stock
stock_of is_lot name = if is_lot then stock.Lot name else stock.Reel name

-- The lot or the reel that this member and `Name` say, if somebody says it and why.
unfoldable pub stock_in : Member → Data → Result Stock LineFault
stock_in m body = do
  is_lot ← is_lot_in m body
  name ← name_in member.Name body
  _ ← saying_in member.By body
  _ ← saying_in member.Reason body
  Ok (stock_of is_lot name)

-- The hold that the bytes say, or the first fault.
unfoldable pub hold_said : List ℕ → Result Matter LineFault
hold_said bytes = do
  body ← body_in bytes
  stock ← stock_in member.Hold body
  Ok (matter.Hold stock)

-- The release that the bytes say, or the first fault.
unfoldable pub release_said : List ℕ → Result Matter LineFault
release_said bytes = do
  body ← body_in bytes
  stock ← stock_in member.Release body
  Ok (matter.Release stock)

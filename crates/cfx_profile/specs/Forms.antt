-- The forms of members: the value of a JSON object's member, or the fault if it is absent or has
-- another form.
use Rattle.std.specs.Prelude.{ℕ, ◌-◌, nat_lt, nat_le, ◌==◌, Bool, not, ◌&&◌, if◌then◌else◌, Option, Some, None, option_and_then, ok_or, Result, Ok, Err, List, length, slice_index}
use Rattle.std.specs.List.{list_all}
use Rattle.serde_json.specs.Data.{Data}
use Rattle.serde_json.specs.Find.{get, as_str, as_number, as_u64}
use Rattle.desk_types.specs.declared.limits.TheConstants.{GREATEST_LABEL, GREATEST_QUANTITY, LONGEST_DESIGNATOR, LONGEST_ID}
use Rattle.desk_types.specs.declared.level.Level.{Level}
use Rattle.desk_types.specs.declared.level.Level.TheVariants.{Six}
use Rattle.desk_types.specs.Designator.{is_designator_byte}
use Rattle.desk_types.specs.Id.{Name}
use Rattle.desk_types.specs.Level.{level_of}
use Rattle.cfx_profile.specs.declared.fault.MessageFault.{MessageFault}
use Rattle.cfx_profile.specs.declared.fault.MessageFault.TheVariants.{BodyMember, OverLimit}
use Rattle.cfx_profile.specs.Fault.{◌>>=◌}
use Rattle.cfx_profile.specs.declared.member.Member.{Member}
use Rattle.cfx_profile.specs.declared.member.Member.TheVariants as member
use Rattle.cfx_profile.specs.Member.{member_text}

-- ---- texts

-- The member, if it is a text.
abbrev pub text_at : Member → Data → Option (List ℕ)
text_at m d = option_and_then as_str (get (member_text m) d)

-- Printable ASCII: a byte from 0x20 to 0x7E.
unfoldable pub is_printable : ℕ → Bool
is_printable b = nat_le 0x20 b && nat_le b 0x7e

-- 1 to 64 bytes from 0x20 to 0x7E, with no space at either end.
abbrev pub is_id : List ℕ → Bool
is_id bytes =
    nat_lt 0 (length bytes) && nat_le (length bytes) LONGEST_ID && list_all is_printable bytes
    && not (slice_index bytes 0 == 0x20) && not (slice_index bytes (length bytes - 1) == 0x20)

-- The text as a name, if it is an id.
unfoldable pub id_of : List ℕ → Option Name
id_of text = if is_id text then Some text else None

-- The member, if it is a text with an id.
abbrev pub id_at : Member → Data → Option Name
id_at m d = option_and_then id_of (text_at m d)

unfoldable pub id_in : Member → Data → Result Name MessageFault
id_in m body = ok_or (id_at m body) (BodyMember m)

-- 1 to 16 ASCII letters, digits, `_`, `.` and `-`.
abbrev pub is_designator : List ℕ → Bool
is_designator bytes = nat_lt 0 (length bytes) && nat_le (length bytes) LONGEST_DESIGNATOR
    && list_all is_designator_byte bytes

-- The text as a name, if it is a designator.
unfoldable pub designator_of : List ℕ → Option Name
designator_of text = if is_designator text then Some text else None

-- A designator in a list.
unfoldable pub designator_in : Data → Result Name MessageFault
designator_in item = ok_or (option_and_then designator_of (as_str item))
    (BodyMember member.Designators)

-- ---- numbers

-- A whole number below 2^64, without sign, point or exponent.
unfoldable pub number_in : Member → Data → Result ℕ MessageFault
number_in m body = ok_or
    (option_and_then as_u64 (option_and_then as_number (get (member_text m) body))) (BodyMember m)

-- The number, if it is at most the greatest.
abbrev pub at_most : Member → ℕ → ℕ → Result ℕ MessageFault
at_most m greatest n = if nat_le n greatest then Ok n else Err (OverLimit m)

-- The number, if it is from 1 to the greatest.
abbrev pub from_1_to : Member → ℕ → ℕ → Result ℕ MessageFault
from_1_to m greatest n = if n == 0 then Err (BodyMember m) else at_most m greatest n

-- 1 to 10,000,000 pieces.
unfoldable pub quantity_in : Member → Data → Result ℕ MessageFault
quantity_in m body = number_in m body >>= from_1_to m GREATEST_QUANTITY

-- 0 to 10,000,000 pieces.
unfoldable pub counted_in : Member → Data → Result ℕ MessageFault
counted_in m row = number_in m row >>= at_most m GREATEST_QUANTITY

-- ---- moisture

unfoldable pub level_in : Member → Data → Result Level MessageFault
level_in m body = ok_or (option_and_then level_of (text_at m body)) (BodyMember m)

-- The minutes on the label: 1 to 525,600 at level 6; at the others the member is not read, and they
-- are 0.
unfoldable pub label_in : Level → Member → Data → Result ℕ MessageFault
label_in Six m body = number_in m body >>= from_1_to m GREATEST_LABEL
label_in _ m body = Ok 0

-- The attributes of a reel in its receipt.
use Rattle.std.specs.Prelude.{ℕ, ◌==◌, nat_lt, nat_le, Bool, not, ◌&&◌, ◌||◌, Option, Some, None, option_and_then, option_map, option_to_list, List, [], ◌++◌, length, codes, if◌then◌else◌}
use Rattle.std.specs.List.{count_by, list_all}
use Rattle.std.specs.Option.{option_map_or}
use Rattle.serde_json.specs.Data.{Data}
use Rattle.serde_json.specs.Find.{as_str, get}
use Rattle.desk_types.specs.Id.{Name}
use Rattle.line_book.specs.declared.note.Matter.TheVariants.{Attribute}
use Rattle.line_members.specs.declared.receipt.AttributeName.{AttributeName}
use Rattle.line_members.specs.declared.receipt.AttributeName.TheVariants.{DateCode, Supplier, MakerPart, Order}
use Rattle.line_members.specs.declared.receipt.TheConstants.{LONGEST_ATTRIBUTE}
use Rattle.line_members.specs.declared.finding.Finding.{Finding}
use Rattle.line_members.specs.Body.{body_in}

-- The member's key, which is the attribute's name in the book.
abbrev pub attribute_text : AttributeName → List ℕ
attribute_text DateCode = codes "DateCode"
attribute_text Supplier = codes "Supplier"
attribute_text MakerPart = codes "MakerPart"
attribute_text Order = codes "Order"

-- ---- values

-- Whether the byte is none of a control character (U+0000 to U+001F, and U+007F).
abbrev pub is_plain : ℕ → Bool
is_plain b = nat_le 0x20 b && not (b == 0x7f)

-- Whether a character of a UTF-8 text begins with the byte.
abbrev pub begins_character : ℕ → Bool
begins_character b = nat_lt b 0x80 || nat_le 0xc0 b

-- 1 to 200 characters, none of which is a control character.
abbrev pub is_attribute : List ℕ → Bool
is_attribute text = not (length text == 0)
    && (nat_le (count_by begins_character text) LONGEST_ATTRIBUTE && list_all is_plain text)

-- The text, if it may be the value of an attribute.
abbrev pub attribute_of : List ℕ → Option (List ℕ)
attribute_of text = if is_attribute text then Some text else None

-- The member of the body, if it may be the value of an attribute.
abbrev pub attribute_at : List ℕ → Data → Option (List ℕ)
attribute_at name body = option_and_then attribute_of (option_and_then as_str (get name body))

-- ---- findings

-- The reel's attribute with this value.
abbrev pub finding : Name → AttributeName → List ℕ → Finding
finding reel name value = record { matter = Attribute reel (attribute_text name); told = value }

abbrev pub finding_at : Name → Data → AttributeName → Option Finding
finding_at reel body name =
    option_map (finding reel name) (attribute_at (attribute_text name) body)

-- The attributes in the body, in this order.
abbrev pub attributes_in : Name → Data → List Finding
attributes_in reel body = ((option_to_list (finding_at reel body DateCode)
    ++ option_to_list (finding_at reel body Supplier))
    ++ option_to_list (finding_at reel body MakerPart))
    ++ option_to_list (finding_at reel body Order)

-- The attributes of the reel in its receipt.
abbrev pub attributes : List ℕ → Name → List Finding
attributes told reel = option_map_or (attributes_in reel) (body_in told) []

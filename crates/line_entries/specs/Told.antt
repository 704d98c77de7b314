-- The text of the column `told`.
use Rattle.std.specs.Prelude.{ℕ, Bool, false, not, ◌&&◌, ◌==◌, List, [], ◌∷◌, ◌++◌, if◌then◌else◌}
use Rattle.std.specs.Str.{is_utf8}
use Rattle.hex.specs.Hex.{encode_lower}

-- The mark of hexadecimal, `\x`.
abbrev pub hex_mark : List ℕ
hex_mark = 0x5c ∷ 0x78 ∷ []

-- Whether the bytes begin with a backslash, as the mark does.
abbrev pub begins_marked : List ℕ → Bool
begins_marked [] = false
begins_marked (b ∷ bytes) = b == 0x5c

-- The bytes themselves, if they are UTF-8 and don't begin with a backslash. Else the mark and two
-- hexadecimal digits for each byte, as PostgreSQL writes bytes.
unfoldable pub told_text : List ℕ → List ℕ
told_text bytes = if is_utf8 bytes && not (begins_marked bytes) then bytes
    else hex_mark ++ encode_lower bytes

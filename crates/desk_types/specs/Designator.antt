-- Designators: the names of places on a board.
use Rattle.std.specs.Prelude.{ℕ, ◌≤◌, ◌<◌, ◌==◌, ◌||◌, Bool, List, length, take}
use Rattle.std.specs.List.{AllPass}
use Rattle.std.specs.Char.{is_ascii_alphanumeric}
use Rattle.desk_types.specs.declared.limits.TheConstants.{LONGEST_DESIGNATOR}
use Rattle.desk_types.specs.Fixed.{IsPadded}

-- An ASCII letter or digit, `_`, `.` or `-`.
abbrev pub is_designator_byte : ℕ → Bool
is_designator_byte b = is_ascii_alphanumeric b || b == 0x5f || b == 0x2e || b == 0x2d

-- 1 to 16 ASCII letters, digits, `_`, `.` and `-`.
pub record IsDesignator (bytes : List ℕ) : Type 0 where
  pub some : 0 < length bytes
  pub fits : length bytes ≤ LONGEST_DESIGNATOR
  pub marks : AllPass is_designator_byte bytes

-- The fields of a designator: its bytes, padded with zeros, and its length.
pub record IsDesignatorInside (bytes : List ℕ) (len : ℕ) : Type 0 where
  pub is_designator : IsDesignator (take len bytes)
  pub padded : IsPadded LONGEST_DESIGNATOR bytes len

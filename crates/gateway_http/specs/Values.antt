-- The numbers in requests.
use Rattle.std.specs.Prelude.{ℕ, nat_le, Bool, ◌&&◌, List, length, Option, Some, None, if◌then◌else◌}
use Rattle.std.specs.Char.{is_ascii_digit}
use Rattle.std.specs.List.{list_all}
use Rattle.std.specs.Option.{option_and_then}
use Rattle.std.specs.Str.Parse.{digits_value}
use Rattle.desk_types.specs.declared.limits.TheConstants.{MOST_BOARDS}
use Rattle.desk_types.specs.declared.trace_detail.TraceDetail.{TraceDetail}
use Rattle.desk_types.specs.TraceDetail.{trace_detail_of}

-- 1 to this many digits.
abbrev pub is_numeral : ℕ → List ℕ → Bool
is_numeral most_digits text = nat_le 1 (length text) && nat_le (length text) most_digits
    && list_all is_ascii_digit text

-- The number in a text of 1 to this many digits.
unfoldable pub number_of : ℕ → List ℕ → Option ℕ
number_of most_digits text = if is_numeral most_digits text
    then Some (digits_value 10 text) else None

-- One digit, 1 to 4.
abbrev pub detail_of : List ℕ → Option TraceDetail
detail_of text = option_and_then trace_detail_of (number_of 1 text)

-- 1 to 100,000 boards.
abbrev pub kit_boards : ℕ → Option ℕ
kit_boards n = if nat_le 1 n && nat_le n MOST_BOARDS then Some n else None

-- 1 to 6 digits, 1 to 100,000.
abbrev pub boards_of : List ℕ → Option ℕ
boards_of text = option_and_then kit_boards (number_of 6 text)

-- The head of a request: its place in a stream of bytes, and its content.
use Rattle.std.specs.Prelude.{◌≤◌, ◌⊎◌, ℕ, Bool, ◌&&◌, ◌||◌, ◌==◌, nat_lt, nat_le, List, [], ◌∷◌, map, take, length, codes, Result, Ok, Err, if◌then◌else◌}
use Rattle.std.specs.Char.{is_ascii_digit}
use Rattle.std.specs.List.{list_any, list_all, slice_split}
use Rattle.std.specs.Str.{str_eq_ignore_ascii_case, bytes_eq}
use Rattle.std.specs.Str.Parse.{digits_value}
use Rattle.httparse.specs.Grammar.{RequestHead, ReadsRequest, HasNoRequest, NeverHasRequest, MayBecomeRequest, print_request, trim_ows}
use Rattle.httparse.specs.Spans.{name_and_value, RequestOverflows, RequestExceeds}
use Rattle.desk_types.specs.declared.limits.TheConstants.{HEAD_LIMIT, LONGEST_INPUT, MOST_HEADERS}
use Rattle.http_stream.specs.declared.head.LengthFault.{LengthFault}
use Rattle.http_stream.specs.declared.head.LengthFault.TheVariants.{LengthRequired, BadLength, BodyTooLarge}

-- ---- place

-- The bytes that are searched for a head.
abbrev pub window : List ℕ → List ℕ
window input = take HEAD_LIMIT input

-- The stream starts with a head within the window and the limit of header lines, followed by the
-- rest.
abbrev pub TakesHead : List ℕ → RequestHead → List ℕ → Type 0
TakesHead input h rest = ReadsRequest input h rest × (length (print_request h) ≤ HEAD_LIMIT)
    × (length h.fields ≤ MOST_HEADERS)

-- No head can start with these bytes, or any that does has too many header lines.
abbrev pub IsBadHead : List ℕ → Type 0
IsBadHead bytes = NeverHasRequest bytes
    ⊎ (RequestExceeds MOST_HEADERS bytes × RequestOverflows MOST_HEADERS bytes)

-- There is no whole head, but more bytes might complete one. This also holds for bytes that end
-- inside a target that can't be part of a head.
abbrev pub IsUnfinished : List ℕ → Type 0
IsUnfinished bytes = HasNoRequest bytes × MayBecomeRequest bytes

-- ---- content

-- The header names, with values trimmed of spaces and tabs.
abbrev pub headers_of : RequestHead → List (List ℕ × List ℕ)
headers_of h = map name_and_value h.fields

-- The values under a name, ignoring case.
abbrev pub values_of : List ℕ → List (List ℕ × List ℕ) → List (List ℕ)
values_of name [] = []
values_of name (f ∷ headers) = if str_eq_ignore_ascii_case f.0 name
    then f.1 ∷ values_of name headers else values_of name headers

abbrev pub is_length : List ℕ → Bool
is_length value = nat_lt 0 (length value) && nat_le (length value) 19
    && list_all is_ascii_digit value

-- The length in a value of Content-Length.
abbrev pub length_in : List ℕ → Result ℕ LengthFault
length_in value = if is_length value then (if nat_lt LONGEST_INPUT (digits_value 10 value)
    then Err BodyTooLarge else Ok (digits_value 10 value)) else Err BadLength

-- The length from Transfer-Encoding and Content-Length values; without one, POST is a fault and
-- other methods have no body.
abbrev pub length_by : Bool → List (List ℕ) → List (List ℕ) → Result ℕ LengthFault
length_by is_post (coding ∷ codings) lengths = Err LengthRequired
length_by is_post [] [] = if is_post then Err LengthRequired else Ok 0
length_by is_post [] (value ∷ []) = length_in value
length_by is_post [] (value ∷ other ∷ values) = Err BadLength

-- The length of the body, or why it can't be read.
abbrev pub body_length : List ℕ → List (List ℕ × List ℕ) → Result ℕ LengthFault
body_length method headers = length_by (bytes_eq method (codes "POST"))
    (values_of (codes "Transfer-Encoding") headers) (values_of (codes "Content-Length") headers)

-- Whether a comma-separated element is `close`, ignoring case and surrounding spaces and tabs.
abbrev pub has_close : List ℕ → Bool
has_close value = list_any (λ part. str_eq_ignore_ascii_case (trim_ows part) (codes "close"))
    (slice_split (λ b. b == 44) value)

-- Whether the connection ends after the answer: the version is 1.0, or a header asks for it.
abbrev pub closes : ℕ → List (List ℕ × List ℕ) → Bool
closes minor headers = minor == 0 || list_any has_close (values_of (codes "Connection") headers)

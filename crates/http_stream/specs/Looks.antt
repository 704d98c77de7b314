-- The result of searching the available bytes for a head.
use Rattle.std.specs.Prelude.{◌≡◌, ◌<◌, ◌≤◌, ℕ, Bool, ◌&&◌, List, [], ◌∷◌, ◌++◌, length, drop, codes, if◌then◌else◌}
use Rattle.std.specs.Str.{str_eq_ignore_ascii_case}
use Rattle.httparse.specs.Grammar.{RequestHead, ReadsRequest, print_request}
use Rattle.httparse.specs.Spans.{span_bytes, IsWithin}
use Rattle.desk_types.specs.declared.limits.TheConstants.{MOST_HEADERS}
use Rattle.http_stream.specs.declared.head.Head.{Head}
use Rattle.http_stream.specs.declared.head.Values.{Values}
use Rattle.http_stream.specs.declared.head.Values.TheVariants as values
use Rattle.http_stream.specs.Heads.{headers_of, body_length, has_close, closes}

-- The bytes start with this head, and `head` stores these parts of it.
pub record IsHeadOf (bytes : List ℕ) (head : Head) (h : RequestHead) : Type 0 where
  pub reads : ReadsRequest bytes h (drop head.len bytes)
  pub len : head.len ≡ length (print_request h)
  pub some : 0 < head.len
  pub in_bytes : head.len ≤ length bytes
  pub few : length h.fields ≤ MOST_HEADERS
  pub method : span_bytes bytes head.method ≡ h.method
  pub method_within : IsWithin (length bytes) head.method
  pub target : span_bytes bytes head.target ≡ h.target
  pub target_within : IsWithin (length bytes) head.target
  pub body : head.body ≡ body_length h.method (headers_of h)
  pub closes : head.closes ≡ closes h.minor (headers_of h)

-- The stored values.
abbrev pub HasValues : List ℕ → Values → List (List ℕ) → Type 0
HasValues bytes values.None vs = vs ≡ []
HasValues bytes (values.One span) vs = (vs ≡ span_bytes bytes span ∷ [])
    × IsWithin (length bytes) span
HasValues bytes values.More vs = 1 < length vs

-- The values with those of one more line.
abbrev pub after_header : List ℕ → List (List ℕ) → List ℕ × List ℕ → List (List ℕ)
after_header name vs f = if str_eq_ignore_ascii_case f.0 name then vs ++ f.1 ∷ [] else vs

-- Whether the line is a Connection header with the element `close`.
abbrev pub closes_by : List ℕ × List ℕ → Bool
closes_by f = str_eq_ignore_ascii_case f.0 (codes "Connection") && has_close f.1

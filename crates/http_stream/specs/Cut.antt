-- Cutting a stream of bytes into requests.
use Rattle.std.specs.Prelude.{◌≡◌, ◌<◌, ◌≤◌, ◌⊎◌, ℕ, Bool, true, false, List, [], ◌∷◌, ◌++◌, length, codes, Ok, Err, Option, Some, None}
use Rattle.std.specs.Str.{bytes_eq}
use Rattle.httparse.specs.Grammar.{RequestHead}
use Rattle.std.specs.Io.KnownBytes.{Consumes}
use Rattle.desk_types.specs.declared.limits.TheConstants.{HEAD_LIMIT}
use Rattle.http_stream.specs.declared.head.LengthFault.{LengthFault}
use Rattle.http_stream.specs.Heads.{window, TakesHead, IsBadHead, IsUnfinished, headers_of, body_length, closes}

-- ---- one portion

-- A request's parts.
pub record Request : Type 0 where
  pub method : List ℕ
  pub target : List ℕ
  pub body : List ℕ

-- The next part of a stream that gets an answer: a whole request, and whether the connection ends
-- after it. The others end the connection: a bad head, one that is too large, one whose body can't
-- be read (with its method), or a request without memory for its body.
pub data Portion : Type 0 where
  whole : Request → Bool → Portion
  bad_head head_too_large : Portion
  unread : List ℕ → LengthFault → Portion
  starved : Portion

-- The stream starts with a head, whose body has this length.
abbrev pub TakesLength : List ℕ → RequestHead → List ℕ → ℕ → Type 0
TakesLength input h rest n = TakesHead input h rest × (body_length h.method (headers_of h) ≡ Ok n)

-- The stream starts with this portion; after a whole request, this is left of it.
abbrev pub IsPortion : List ℕ → Portion → List ℕ → Type 0
IsPortion input (whole r ends) left = (h : RequestHead)
    × TakesLength input h (r.body ++ left) (length r.body)
    × (r.method ≡ h.method) × (r.target ≡ h.target) × (ends ≡ closes h.minor (headers_of h))
IsPortion input bad_head left = IsBadHead (window input)
IsPortion input head_too_large left = (HEAD_LIMIT ≤ length input) × IsUnfinished (window input)
IsPortion input (unread method fault) left = (h : RequestHead) × (rest : List ℕ) × TakesHead input h
    rest × (body_length h.method (headers_of h) ≡ Err fault) × (method ≡ h.method)
IsPortion input starved left = (h : RequestHead) × (rest : List ℕ) × (n : ℕ)
    × TakesLength input h rest n × (0 < n)

-- The stream ends inside a head or body, or has no bytes.
abbrev pub EndsInside : List ℕ → Type 0
EndsInside input = ((length input < HEAD_LIMIT) × IsUnfinished input)
    ⊎ ((h : RequestHead) × (rest : List ℕ) × (n : ℕ)
    × TakesLength input h rest n × (length rest < n))

-- Whether the connection ends after the answer.
abbrev pub is_last : Portion → Bool
is_last (whole r ends) = ends
is_last bad_head = true
is_last head_too_large = true
is_last (unread method fault) = true
is_last starved = true

-- Whether the method is HEAD, whose answers have no body.
abbrev pub is_head : List ℕ → Bool
is_head method = bytes_eq method (codes "HEAD")

-- ---- several portions

-- The stream starts with these portions, none of them the last, and continues with the rest.
abbrev pub Leads : List ℕ → List Portion → List ℕ → Type 0
Leads input [] left = left ≡ input
Leads input (p ∷ ps) left = (rest : List ℕ) × IsPortion input p rest
    × (is_last p ≡ false) × Leads rest ps left

-- The stream is cut into these portions, up to the last one or its end.
abbrev pub IsCut : List ℕ → List Portion → Type 0
IsCut input [] = EndsInside input
IsCut input (p ∷ ps) = (rest : List ℕ) × IsPortion input p rest
    × (((is_last p ≡ true) × (ps ≡ [])) ⊎ ((is_last p ≡ false) × IsCut rest ps))

-- ---- a reader's bytes, if known

-- The bytes read are no whole portion.
abbrev pub ReadsInside : Option (List ℕ) → Option (List ℕ) → Type 0
ReadsInside old new = (bytes : List ℕ) × Consumes old new bytes × EndsInside bytes

-- This portion was taken.
abbrev pub TakesPortion : Option (List ℕ) → Portion → Option (List ℕ) → Type 0
TakesPortion None p new = Unit {0}
TakesPortion (Some input) p None = ⊥
TakesPortion (Some input) p (Some left) = IsPortion input p left

-- These portions were taken.
abbrev pub PortionsGone : Option (List ℕ) → List Portion → Option (List ℕ) → Type 0
PortionsGone None ps new = Unit {0}
PortionsGone (Some input) ps None = ⊥
PortionsGone (Some input) ps (Some left) = Leads input ps left

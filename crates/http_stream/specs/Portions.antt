-- The stored parts of a portion.
use Rattle.std.specs.Prelude.{◌≤◌, List, ℕ, length, Option, IfSome, MatchOption}
use Rattle.httparse.specs.Spans.{span_bytes, IsWithin}
use Rattle.http_stream.specs.declared.front.Seen.{Seen}
use Rattle.http_stream.specs.declared.portion.TakenPortion.{TakenPortion}
use Rattle.http_stream.specs.declared.portion.TakenPortion.TheVariants as taken
use Rattle.http_stream.specs.Cut.{Request, Portion, whole, bad_head, head_too_large, unread, starved, EndsInside, TakesPortion}
use Rattle.http_stream.specs.Fronts.{seen_bytes}

-- The head's method, from the block.
abbrev pub method_of : List ℕ → Seen → List ℕ
method_of block seen = span_bytes (seen_bytes block seen) seen.head.method

-- The head's target, from the block.
abbrev pub target_of : List ℕ → Seen → List ℕ
target_of block seen = span_bytes (seen_bytes block seen) seen.head.target

abbrev pub request_of : List ℕ → Seen → List ℕ → Request
request_of block seen body =
    record { method = method_of block seen; target = target_of block seen; body = body }

-- The portion that the code took.
abbrev pub portion_of : List ℕ → TakenPortion → Portion
portion_of block (taken.Whole seen bytes) =
    whole (request_of block seen bytes.items) seen.head.closes
portion_of block taken.BadHead = bad_head
portion_of block taken.HeadTooLarge = head_too_large
portion_of block (taken.Unread seen fault) = unread (method_of block seen) fault
portion_of block taken.Starved = starved

-- The searched bytes lie in the block.
abbrev pub IsSeen : List ℕ → Seen → Type 0
IsSeen block seen = (seen.from ≤ seen.to) × (seen.to ≤ length block)
    × IsWithin (length (seen_bytes block seen)) seen.head.method
    × IsWithin (length (seen_bytes block seen)) seen.head.target

-- The same for a portion.
abbrev pub IsTaken : List ℕ → TakenPortion → Type 0
IsTaken block (taken.Whole seen bytes) = IsSeen block seen
IsTaken block taken.BadHead = Unit {0}
IsTaken block taken.HeadTooLarge = Unit {0}
IsTaken block (taken.Unread seen fault) = IsSeen block seen
IsTaken block taken.Starved = Unit {0}

-- The next portion was taken and lies in the block, or the stream ends inside or before it.
pub record TakesNext (next : Option TakenPortion) (block : List ℕ)
    (old new : Option (List ℕ)) : Type 0 where
  pub taken : IfSome next (λ taken. IsTaken block taken)
  pub portion : MatchOption next (IfSome old EndsInside)
      (λ taken. TakesPortion old (portion_of block taken) new)

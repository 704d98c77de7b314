-- The start of a reader's bytes.
use Rattle.std.specs.Prelude.{◌≡◌, ℕ, ◌<◌, ◌≤◌, List, length, Option}
use Rattle.std.specs.List.{slice_range}
use Rattle.std.specs.Io.KnownBytes.{IsAtEnd}
use Rattle.httparse.specs.Grammar.{RequestHead}
use Rattle.desk_types.specs.declared.limits.TheConstants.{BLOCK, HEAD_LIMIT}
use Rattle.desk_answers.specs.declared.block.Block.{Block}
use Rattle.desk_answers.specs.Block.{pending_bytes}
use Rattle.http_stream.specs.declared.front.Seen.{Seen}
use Rattle.http_stream.specs.declared.front.HeadSearch.{HeadSearch}
use Rattle.http_stream.specs.declared.front.HeadSearch.TheVariants as front
use Rattle.http_stream.specs.Heads.{window, IsBadHead, IsUnfinished}
use Rattle.http_stream.specs.Looks.{IsHeadOf}

-- The bytes searched for a head.
abbrev pub seen_bytes : List ℕ → Seen → List ℕ
seen_bytes bytes seen = slice_range bytes seen.from seen.to

-- The result of searching the pending bytes, without taking any.
abbrev pub IsFront : Block → Option (List ℕ) → HeadSearch → Type 0
IsFront block known (front.Head seen) = (h : RequestHead)
    × IsHeadOf (seen_bytes block.bytes seen) seen.head h
    × (seen_bytes block.bytes seen ≡ window (pending_bytes block))
    × (seen.from ≤ seen.to) × (seen.to ≤ BLOCK)
IsFront block known front.Bad = IsBadHead (window (pending_bytes block))
IsFront block known front.TooLarge = (HEAD_LIMIT ≤ length (pending_bytes block))
    × IsUnfinished (window (pending_bytes block))
IsFront block known front.End = (length (pending_bytes block) < HEAD_LIMIT)
    × IsUnfinished (pending_bytes block) × IsAtEnd known

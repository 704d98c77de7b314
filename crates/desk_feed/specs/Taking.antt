-- Taking a line from a reader's bytes.
use Rattle.std.specs.Prelude.{◌≡◌, ℕ, ◌<◌, ◌≤◌, Bool, true, false, All, List, [], ◌∷◌, ◌++◌, length, take, get_or, Option, Some, None, Result, Ok, OnOk}
use Rattle.std.specs.Io.KnownBytes.{Consumes, IsAtEnd}
use Rattle.desk_types.specs.declared.wire.Wire.{Wire}
use Rattle.desk_answers.specs.declared.block.Block.{Block}
use Rattle.desk_answers.specs.Block.{fuel, pending_bytes, source}
use Rattle.desk_feed.specs.Lines.{is_feed, is_empty, without_return, lines_of}
use Rattle.desk_feed.specs.declared.taking.TheConstants.{LONGEST_RAW}
use Rattle.desk_feed.specs.declared.taking.RawLine.{RawLine}
use Rattle.desk_feed.specs.declared.taking.TakenLine.{TakenLine}
use Rattle.desk_feed.specs.declared.taking.RawLine.TheVariants.{Whole, Over, NoMemory, NoMemoryReturn}

abbrev pub HasNoFeed : List ℕ → Type 0
HasNoFeed bytes = All (λ b. is_feed b ≡ false) bytes

-- The place of the first line feed.
abbrev pub IsFirstFeed : List ℕ → Option ℕ → Type 0
IsFirstFeed block None = HasNoFeed block
IsFirstFeed block (Some n) = (n < length block) × HasNoFeed (take n block) × (get_or block n 0 ≡ 10)

-- The stored part of a line with these bytes.
abbrev pub HoldsLine : RawLine → List ℕ → Type 0
HoldsLine (Whole kept) raw = (kept.items ≡ raw) × (length raw ≤ LONGEST_RAW)
HoldsLine Over raw = LONGEST_RAW < length raw
HoldsLine NoMemory raw = (0 < length raw) × (is_empty (without_return raw) ≡ false)
HoldsLine NoMemoryReturn raw = (0 < length raw) × (is_empty (without_return raw) ≡ true)

-- These bytes were taken: with their line feed, or up to the end of input.
abbrev pub TakesLine : Option (List ℕ) → List ℕ → Bool → Option (List ℕ) → Type 0
TakesLine old raw true new = HasNoFeed raw × Consumes old new raw × IsAtEnd new
TakesLine old raw false new = HasNoFeed raw × Consumes old new (raw ++ 10 ∷ [])

-- The next line was taken.
abbrev pub TakesNext : Option (List ℕ) → TakenLine → Option (List ℕ) → Type 0
TakesNext old taken new = (raw : List ℕ) × HoldsLine taken.line raw
    × TakesLine old raw taken.last new

-- The bytes read are no whole line.
abbrev pub ReadsInside : Option (List ℕ) → Option (List ℕ) → Type 0
ReadsInside old new = (rest : List ℕ) × HasNoFeed rest × Consumes old new rest

-- A byte is pending, or the input is at its end.
pub record HasPending {E : Type 0} (result : Result Bool E) (block : Block)
    (known : Option (List ℕ)) : Type 0 where
  pub some : result ≡ Ok true → 0 < length (pending_bytes block)
  pub end : result ≡ Ok false → IsAtEnd (source block known)

-- The measure doesn't grow, and it falls at the end of input.
pub record FallsAtEnd {E R : Type 0} (most_reads : ℕ) (result : Result Bool E) (old : Wire R)
    (block : Block) (new : Wire R) (block' : Block) : Type 0 where
  pub falls : OnOk result (fuel most_reads new block' ≤ fuel most_reads old block)
  pub at_end : result ≡ Ok false → fuel most_reads new block' < fuel most_reads old block

-- These lines were taken from the reader's bytes, if known.
abbrev pub LinesGone : Option (List ℕ) → List (List ℕ) → Option (List ℕ) → Type 0
LinesGone None lines new = Unit {0}
LinesGone (Some before) lines None = ⊥
LinesGone (Some before) lines (Some left) = lines_of before ≡ lines ++ lines_of left

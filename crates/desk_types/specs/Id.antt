-- Names of parts, reels, lots, machines, slots, boards, products, messages and their sources.
use Rattle.std.specs.Prelude.{◌≢◌, ℕ, ◌-◌, ◌≤◌, ◌<◌, ◌==◌, Bool, List, length, take, slice_index, All}
use Rattle.std.specs.Cmp.Lexicographic.{pointwise, slice_cmp}
use Rattle.std.specs.Ordering.{nat_cmp}
use Rattle.std.specs.declared.cmp.Ordering.{Ordering}
use Rattle.desk_types.specs.declared.limits.TheConstants.{LONGEST_ID}
use Rattle.desk_types.specs.Fixed.{IsPadded}

-- A name's bytes.
abbrev pub Name : Type 0
Name = List ℕ

-- Whether two names are equal.
abbrev pub same : Name → Name → Bool
same = pointwise ◌==◌

-- The order of names, byte by byte.
abbrev pub by_name : Name → Name → Ordering
by_name = slice_cmp nat_cmp

-- 1 to 64 bytes from 0x20 to 0x7E, with no space at either end.
pub record IsId (bytes : List ℕ) : Type 0 where
  pub some : 0 < length bytes
  pub fits : length bytes ≤ LONGEST_ID
  pub printable : All (λ b. (0x20 ≤ b) × (b ≤ 0x7e)) bytes
  pub no_space_first : slice_index bytes 0 ≢ 0x20
  pub no_space_last : slice_index bytes (length bytes - 1) ≢ 0x20

-- The fields of an id: its bytes, padded with zeros, and its length.
pub record IsIdInside (bytes : List ℕ) (len : ℕ) : Type 0 where
  pub is_id : IsId (take len bytes)
  pub padded : IsPadded LONGEST_ID bytes len

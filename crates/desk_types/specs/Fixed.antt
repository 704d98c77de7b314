-- Short texts stored in an array of a fixed width.
use Rattle.std.specs.Prelude.{◌≡◌, ℕ, ◌-◌, ◌≤◌, List, ◌++◌, length, take, drop, replicate}
use Rattle.std.specs.Slice.Scan.{big_endian}

-- The bytes, padded with zeros up to the width.
abbrev pub with_zeros : ℕ → List ℕ → List ℕ
with_zeros width bytes = bytes ++ replicate (width - length bytes) 0

-- The array holds a text of this length, padded with zeros.
pub record IsPadded (width : ℕ) (bytes : List ℕ) (len : ℕ) : Type 0 where
  pub len_fits : len ≤ length bytes
  pub padding : with_zeros width (take len bytes) ≡ bytes

-- The big-endian number in the eight bytes at this place.
abbrev pub word_at : List ℕ → ℕ → ℕ
word_at bytes at = big_endian 0 (take 8 (drop at bytes))

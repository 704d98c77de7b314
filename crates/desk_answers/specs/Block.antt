-- The buffer of the last read, and its pending bytes.
use Rattle.std.specs.Prelude.{◌≡◌, ℕ, ◌+◌, ◌-◌, ◌*◌, ◌≤◌, List, length, take, drop, Option}
use Rattle.std.specs.Io.KnownBytes.{prepend_known}
use Rattle.desk_types.specs.declared.limits.TheConstants.{BLOCK}
use Rattle.desk_types.specs.declared.wire.Wire.{Wire}
use Rattle.desk_types.specs.Wire.{reads_of}
use Rattle.desk_answers.specs.declared.block.Block.{Block}

-- The pending bytes, from `at` to `end`, lie in a buffer of full size.
abbrev pub IsBlock : Block → Type 0
IsBlock block = (block.at ≤ block.end) × (block.end ≤ BLOCK) × (length block.bytes ≡ BLOCK)

abbrev pub pending_bytes : Block → List ℕ
pending_bytes block = drop block.at (take block.end block.bytes)

-- The bytes still to be taken: the pending ones, then the reader's, if known.
abbrev pub source : Block → Option (List ℕ) → Option (List ℕ)
source block known = prepend_known (pending_bytes block) known

-- A measure for loops: the bytes of all reads still allowed, and the pending ones.
abbrev pub fuel : {R : Type 0} → ℕ → Wire R → Block → ℕ
fuel most_reads wire block = (most_reads - reads_of wire) * (BLOCK + 1)
    + length (pending_bytes block)

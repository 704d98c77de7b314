-- The conditions and effects of reads.
use Rattle.std.specs.Prelude.{◌≡◌, ℕ, ◌+◌, ◌-◌, ◌^◌, ◌<◌, ◌≤◌, ◌++◌, Bool, true, false, List, length, take, Option, Result, Ok, Err, IfOk, OnOk, OnErr}
use Rattle.std.specs.Io.KnownBytes.{Keeps, Consumes, IsAtEnd}
use Rattle.desk_types.specs.declared.wire.Wire.{Wire}
use Rattle.desk_types.specs.Wire.{reads_of, failures_of}
use Rattle.desk_types.specs.declared.limits.TheConstants.{BLOCK}
use Rattle.desk_answers.specs.Block.{IsBlock, pending_bytes, source}
use Rattle.desk_answers.specs.declared.block.Block.{Block}
use Rattle.desk_answers.specs.declared.block.ReadFault.{ReadFault}
use Rattle.desk_answers.specs.declared.block.ReadFault.TheVariants.{Failed, TooMany}

-- The read limit isn't exceeded, and one more failure can be counted.
pub record MayRead {R : Type 0} (most_reads : ℕ) (wire : Wire R) : Type 0 where
  pub few_reads : reads_of wire ≤ most_reads
  pub few_failures : failures_of wire < 2 ^ 63

-- The read limit isn't exceeded, no read failed except the one reported, and TooMany is only
-- reported at the limit.
pub record ReadsUpTo {A R : Type 0} (most_reads : ℕ) (result : Result A ReadFault)
    (old new : Wire R) : Type 0 where
  pub few_reads : reads_of new ≤ most_reads
  pub kept : OnOk result (failures_of new ≡ failures_of old)
  pub failed : result ≡ Err Failed → failures_of new ≡ failures_of old + 1
  pub too_many : result ≡ Err TooMany → (reads_of new ≡ most_reads)
      × (failures_of new ≡ failures_of old)

-- The block is valid, and its wire may be read once more.
pub record MayReadInto {R : Type 0} (most_reads : ℕ) (wire : Wire R) (block : Block) : Type 0 where
  pub valid : IsBlock block
  pub reads : MayRead most_reads wire

-- The block is valid again, and the reads kept to their limit.
pub record ReadsInto {A R : Type 0} (most_reads : ℕ) (result : Result A ReadFault)
    (old new : Wire R) (block : Block) : Type 0 where
  pub valid : IsBlock block
  pub reads : ReadsUpTo most_reads result old new

-- ---- one read

-- The block's room behind its first bytes.
pub record HasRoom (block : List ℕ) (from : ℕ) : Type 0 where
  pub full : length block ≡ BLOCK
  pub some : from < BLOCK

-- One read, and its failure, can be counted.
pub record CanCountRead {R : Type 0} (wire : Wire R) : Type 0 where
  pub few_failures : failures_of wire < 2 ^ 63
  pub few_reads : reads_of wire < 2 ^ 64 - 1

-- One read was counted, and its failure.
pub record CountsRead {A E R : Type 0} (result : Result A E) (old new : Wire R) : Type 0 where
  pub reads : reads_of new ≡ reads_of old + 1
  pub kept : OnOk result (failures_of new ≡ failures_of old)
  pub failed : OnErr result (failures_of new ≡ failures_of old + 1)

-- The bytes of one read lie behind the first bytes of the block: none at the end of the input, and
-- none after a failure.
pub record ReadsBehind {E : Type 0} (from : ℕ) (result : Result ℕ E) (block block' : List ℕ)
    (old new : Option (List ℕ)) : Type 0 where
  pub full : length block' ≡ BLOCK
  pub bound : IfOk result (λ count. from + count ≤ BLOCK)
  pub bytes : IfOk result
      (λ count. (gone : List ℕ) × (take (from + count) block' ≡ take from block ++ gone)
      × (length gone ≡ count) × Consumes old new gone)
  pub end : result ≡ Ok 0 → IsAtEnd new
  pub unread : OnErr result (Keeps old new)

-- The bytes still to be taken are the same; a failed read took none from the reader.
pub record KeepsSource {A E : Type 0} (result : Result A E) (block block' : Block)
    (old new : Option (List ℕ)) : Type 0 where
  pub kept : OnOk result (Keeps (source block old) (source block' new))
  pub unread : OnErr result (Keeps old new)

-- The block has pending bytes, or nothing changed in it and the input is at its end.
pub record ReadsMore {E : Type 0} (result : Result Bool E) (block block' : Block)
    (new : Option (List ℕ)) : Type 0 where
  pub some : result ≡ Ok true → 0 < length (pending_bytes block')
  pub end : result ≡ Ok false → IsAtEnd new × (pending_bytes block' ≡ pending_bytes block)

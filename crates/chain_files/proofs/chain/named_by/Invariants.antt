use Rattle.desk_types.proofs.Common.{All, map, string_bytes, take}
use Rattle.chain_files.specs.Marks.{NamesChecksum}
use Rattle.chain_files.proofs.chain.named_by.Given as goal

-- The mark names none of the checksums so far.
abbrev pub invariant-loop-place : goal.invariant-loop-place
invariant-loop-place l =
    All (λ checksum. ¬ NamesChecksum checksum (string_bytes l.mark)) (take l.place (map string_bytes l.seen))

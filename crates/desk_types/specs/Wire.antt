-- Readers and writers that count their calls.
use Rattle.std.specs.Prelude.{◌≡◌, ◌<◌, ℕ, ◌+◌, ◌-◌, ◌^◌, min, Result, Ok, IfOk, OnOk, OnErr}
use Rattle.desk_types.specs.declared.wire.Wire.{Wire}

-- The wrapped reader or writer.
abbrev pub inner_of : {T : Type 0} → Wire T → T
inner_of wire = wire.inner

-- The number of reads.
abbrev pub reads_of : {T : Type 0} → Wire T → ℕ
reads_of wire = wire.reads

-- The number of failed calls: errors, and writes of a non-empty piece that took nothing.
abbrev pub failures_of : {T : Type 0} → Wire T → ℕ
failures_of wire = wire.failures

-- The count plus one, at most 2^64 - 1.
abbrev pub one_more : ℕ → ℕ
one_more n = min (n + 1) (2 ^ 64 - 1)

-- A failure was counted if writing n bytes gave an error, or took nothing of a non-empty piece.
pub record CountsFailure {E T : Type 0} (result : Result ℕ E) (n : ℕ) (old new : Wire T)
    : Type 0 where
  pub failed : OnErr result (failures_of new ≡ one_more (failures_of old))
  pub stuck : result ≡ Ok 0 → 0 < n → failures_of new ≡ one_more (failures_of old)
  pub kept : IfOk result (λ taken. 0 < taken → failures_of new ≡ failures_of old)
  pub empty : OnOk result (n ≡ 0 → failures_of new ≡ failures_of old)

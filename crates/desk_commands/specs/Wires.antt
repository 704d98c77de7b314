-- The counts that a run requires of its wires, and the counts after a run without faults.
use Rattle.std.specs.Prelude.{◌≡◌, ◌<◌, ◌^◌, ℕ, List, Option}
use Rattle.std.specs.Io.KnownBytes.{IsAtEnd}
use Rattle.desk_types.specs.declared.wire.Wire.{Wire}
use Rattle.desk_types.specs.Wire.{inner_of, reads_of, failures_of}
use Rattle.desk_answers.specs.Shown.{FailsNever}

-- The writers' counts are so low that each failure of this run can still be counted.
pub record HaveFewFailures {W E : Type 0} (output : Wire W) (errors : Wire E) : Type 0 where
  pub write_failures : failures_of output < 2 ^ 63
  pub error_failures : failures_of errors < 2 ^ 63

-- The counts of all three wires are so low that each read and failure of this run can still be counted.
pub record HaveFewCounts {R W E : Type 0} (input : Wire R) (output : Wire W)
    (errors : Wire E) : Type 0 where
  pub reads : reads_of input < 2 ^ 63
  pub read_failures : failures_of input < 2 ^ 63
  pub write_failures : failures_of output < 2 ^ 63
  pub error_failures : failures_of errors < 2 ^ 63

-- No write to the output failed, and nothing was printed on standard error.
pub record GoesWell {W E : Type 0} (output output' : Wire W)
    (errors errors' : Wire E) : Type 0 where
  pub kept : failures_of output' ≡ failures_of output
  pub quiet : errors' ≡ errors

-- The input was read to its end, no read or write failed, and nothing was printed on standard error.
pub record FeedsWell {R W E : Type 0} (remaining : R → Option (List ℕ)) (input input' : Wire R)
    (output output' : Wire W) (errors errors' : Wire E) : Type 0 where
  pub end : IsAtEnd (remaining (inner_of input'))
  pub kept : FailsNever input input' output output'
  pub quiet : errors' ≡ errors

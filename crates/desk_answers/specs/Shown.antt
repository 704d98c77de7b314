-- The evidence of failures in the counts of the wires.
use Rattle.std.specs.Prelude.{◌≡◌, ◌+◌, ◌^◌, ◌<◌, ◌≤◌, Result, OnOk, IfErr}
use Rattle.desk_types.specs.declared.wire.Wire.{Wire}
use Rattle.desk_types.specs.Wire.{reads_of, failures_of}
use Rattle.desk_answers.specs.declared.serving.Served.{Served}
use Rattle.desk_answers.specs.declared.serving.ServeFault.{ServeFault}
use Rattle.desk_answers.specs.declared.serving.ServeFault.TheVariants.{Read, Write, TooManyReads}
use Rattle.desk_types.specs.declared.limits.TheConstants.{MOST_READS}

-- The counts have room for a whole run.
pub record CanCountRun {R W : Type 0} (input : Wire R) (output : Wire W) : Type 0 where
  pub reads : reads_of input < 2 ^ 63
  pub read_failures : failures_of input < 2 ^ 63
  pub write_failures : failures_of output < 2 ^ 63

-- No further failure was counted.
abbrev pub FailsNever : {R W : Type 0} → Wire R → Wire R → Wire W → Wire W → Type 0
FailsNever input input' output output' = (failures_of input' ≡ failures_of input)
    × (failures_of output' ≡ failures_of output)

-- The counts show the fault: one failed read, one failed write, or the read limit.
abbrev pub IsShown : {R W : Type 0} → ServeFault → Wire R → Wire R → Wire W → Wire W → Type 0
IsShown (Read served) input input' output output' = (failures_of input' ≡ failures_of input + 1)
    × (failures_of output' ≡ failures_of output)
IsShown (Write served) input input' output output' = (failures_of output' ≡ failures_of output + 1)
    × (failures_of input' ≡ failures_of input)
IsShown (TooManyReads served) input input' output output' =
    (reads_of input' ≡ reads_of input + MOST_READS) × FailsNever input input' output output'

-- At most the allowed reads were made, and the counts of failures show how the run ended.
pub record CountsRun {R W : Type 0} (ended : Result Served ServeFault) (input input' : Wire R)
    (output output' : Wire W) : Type 0 where
  pub few_reads : reads_of input' ≤ reads_of input + MOST_READS
  pub kept : OnOk ended (FailsNever input input' output output')
  pub fault : IfErr ended (λ fault. IsShown fault input input' output output')

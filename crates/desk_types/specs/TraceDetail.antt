-- The detail level of a trace.
use Rattle.std.specs.Prelude.{◌==◌, ℕ, Option, Some, None, if◌then◌else◌}
use Rattle.desk_types.specs.declared.trace_detail.TraceDetail.{TraceDetail}
use Rattle.desk_types.specs.declared.trace_detail.TraceDetail.TheVariants.{One, Two, Three, Four}

-- The detail for a number from 1 to 4.
abbrev pub trace_detail_of : ℕ → Option TraceDetail
trace_detail_of n = if n == 1 then Some One else if n == 2 then Some Two else if n == 3
    then Some Three else if n == 4 then Some Four else None

use Rattle.desk_types.proofs.Common.{◌-◌, ◌≡◌, ◌≤◌, Consumes, failures_of, inner_of, length, reads_of, take}
use Rattle.http_stream.proofs.body.read_whole.Given as goal

abbrev pub invariant-loop-got : goal.invariant-loop-got
invariant-loop-got g l = record {
  within : l.got ≤ length l.room;
  bytes : Consumes (g.R.Read.remaining (inner_of l.fn.wire)) (g.R.Read.remaining (inner_of l.wire)) (take l.got l.room);
  reads : reads_of l.wire ≤ l.most_reads;
  more_reads : reads_of l.fn.wire ≤ reads_of l.wire;
  failures : failures_of l.wire ≡ failures_of l.fn.wire;
}

abbrev pub decreases-loop-got : goal.decreases-loop-got
decreases-loop-got g l = length l.room - l.got

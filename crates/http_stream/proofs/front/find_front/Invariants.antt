use Rattle.desk_types.proofs.Common.{◌≡◌, ◌≤◌, failures_of, inner_of, reads_of}
use Rattle.desk_answers.specs.Block.{fuel, IsBlock, source}
use Rattle.std.specs.Io.KnownBytes.{Keeps}
use Rattle.http_stream.proofs.front.find_front.Given as goal

abbrev pub invariant-looks : goal.invariant-looks
invariant-looks g l = record {
  block : IsBlock l.block;
  reads : reads_of l.wire ≤ l.most_reads;
  failures : failures_of l.wire ≡ failures_of l.fn.wire;
  falls : fuel l.most_reads l.wire l.block ≤ fuel l.most_reads l.fn.wire l.fn.block;
  source : Keeps (source l.fn.block (g.R.Read.remaining (inner_of l.fn.wire))) (source l.block (g.R.Read.remaining (inner_of l.wire)));
}

abbrev pub decreases-looks : goal.decreases-looks
decreases-looks g l = fuel l.most_reads l.wire l.block

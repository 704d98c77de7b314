use Rattle.desk_types.proofs.Common.{◌≡◌, ◌≤◌, Consumes, failures_of, inner_of, List, reads_of, ℕ}
use Rattle.desk_answers.specs.Block.{fuel, IsBlock, source}
use Rattle.desk_feed.specs.Taking.{HasNoFeed, HoldsLine}
use Rattle.desk_feed.proofs.taking.take_line.Given as goal

abbrev pub invariant-loop-line : goal.invariant-loop-line
invariant-loop-line g l = record {
  block : IsBlock l.block;
  reads : reads_of l.wire ≤ l.most_reads;
  failures : failures_of l.wire ≡ failures_of l.fn.wire;
  falls : fuel l.most_reads l.wire l.block ≤ fuel l.most_reads l.fn.wire l.fn.block;
  raw : List ℕ;
  gone : Consumes (source l.fn.block (g.R.Read.remaining (inner_of l.fn.wire))) (source l.block (g.R.Read.remaining (inner_of l.wire))) raw;
  no_feed : HasNoFeed raw;
  holds : HoldsLine l.line raw;
}

abbrev pub decreases-loop-line : goal.decreases-loop-line
decreases-loop-line g l = fuel l.most_reads l.wire l.block

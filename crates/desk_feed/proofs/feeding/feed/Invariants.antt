use Rattle.desk_types.proofs.Common.{◌*◌, ◌+◌, ◌≡◌, ◌≤◌, failures_of, inner_of, List, reads_of, ℕ}
use Rattle.desk_answers.{specs.Block.fuel, specs.Block.IsBlock, specs.Block.source, specs.Counts.none_served}
use Rattle.desk_feed.{proofs.LinesOfInputs.EndsGone, proofs.OwnersOfLines.Goes, specs.Taking.LinesGone}
use Rattle.desk_types.specs.declared.limits.TheConstants.{BLOCK, MOST_READS}
use Rattle.desk_feed.proofs.feeding.feed.Given as goal

abbrev pub invariant-lines : goal.invariant-lines
invariant-lines g l = record {
  block : IsBlock l.block;
  reads : reads_of l.input ≤ l.most_reads;
  read_failures : failures_of l.input ≡ failures_of l.fn.input;
  write_failures : failures_of l.output ≡ failures_of l.fn.output;
  counted : l.served.answered + fuel l.most_reads l.input l.block ≤ MOST_READS * (BLOCK + 1);
  refused : l.served.refused ≤ l.served.answered;
  ready : g.L.Owner.Ready l.owner;
  trusts : g.L.Owner.Trusts l.owner → g.L.Owner.Trusts l.fn.owner;
  lines : List (List ℕ);
  ended : EndsGone (g.R.Read.remaining (inner_of l.fn.input)) l.served.answered (source l.block (g.R.Read.remaining (inner_of l.input)));
  gone : LinesGone (g.R.Read.remaining (inner_of l.fn.input)) lines (source l.block (g.R.Read.remaining (inner_of l.input)));
  answered : Goes g.L.Owner.Stands g.L.Owner.Trusts lines l.fn.owner (g.W.Write.contents (inner_of l.fn.output)) none_served l.owner (g.W.Write.contents (inner_of l.output)) l.served;
}

abbrev pub decreases-lines : goal.decreases-lines
decreases-lines g l = fuel l.most_reads l.input l.block

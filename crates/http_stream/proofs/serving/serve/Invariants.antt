use Rattle.desk_types.proofs.Common.{◌*◌, ◌+◌, ◌≡◌, ◌≤◌, failures_of, inner_of, List, reads_of}
use Rattle.desk_answers.{specs.Block.fuel, specs.Block.IsBlock, specs.Block.source, specs.Counts.none_served}
use Rattle.desk_types.specs.declared.limits.TheConstants.{BLOCK, MOST_READS}
use Rattle.http_stream.{proofs.HandlersOfPortions.Goes, specs.Cut.Portion, specs.Cut.PortionsGone}
use Rattle.http_stream.proofs.serving.serve.Given as goal

abbrev pub invariant-portions : goal.invariant-portions
invariant-portions g l = record {
  block : IsBlock l.block;
  reads : reads_of l.input ≤ l.most_reads;
  read_failures : failures_of l.input ≡ failures_of l.fn.input;
  write_failures : failures_of l.output ≡ failures_of l.fn.output;
  counted : l.served.answered + fuel l.most_reads l.input l.block ≤ MOST_READS * (BLOCK + 1);
  refused : l.served.refused ≤ l.served.answered;
  ready : g.A.Handler.Ready l.handler;
  trusts : g.A.Handler.Trusts l.handler → g.A.Handler.Trusts l.fn.handler;
  held : g.A.Handler.held l.handler ≡ g.A.Handler.held l.fn.handler;
  portions : List Portion;
  gone : PortionsGone (g.R.Read.remaining (inner_of l.fn.input)) portions (source l.block (g.R.Read.remaining (inner_of l.input)));
  answered : Goes g.A.Handler.rule g.A.Handler.Stands g.A.Handler.Trusts portions l.fn.handler (g.W.Write.contents (inner_of l.fn.output)) none_served l.handler (g.W.Write.contents (inner_of l.output)) l.served;
}

abbrev pub decreases-portions : goal.decreases-portions
decreases-portions g l = fuel l.most_reads l.input l.block

use Rattle.desk_types.proofs.Common.{inner_of}
use Rattle.gateway_http.proofs.OnlyHistories.{lists_after}
use Rattle.gateway_http.proofs.gateway.Gateway.serve.Goals as goal

pub returns-clause-answers : goal.returns-clause-answers
returns-clause-answers g c =
    let reads = g.R.Read.remaining in
    let writes = g.W.Write.contents in
    let owner = g.L.Owner in
    lists_after g.L.ReportedOwner.reports
    (reads (inner_of c.args.input.now)) (reads (inner_of c.serve.new.input))
    (writes (inner_of c.args.output.now)) (writes (inner_of c.serve.new.output))
    (λ gateway G. owner.Stands gateway.owner.now G) (λ gateway. owner.Trusts gateway.owner.now)
    c.args.self.now c.serve.new.handler c.serve.result c.serve.ensures.answers

use Rattle.desk_commands.proofs.{EndsOfRuns.serving_follows, ListsAfter.lists_in_turn}
use Rattle.desk_commands.proofs.port.serve_gateway.Goals as goal

pub returns-clause-ends : goal.returns-clause-ends
returns-clause-ends g c =
    let owner = g.L.Owner in
    serving_follows c.serve_port.ensures.ends (λ es. lists_in_turn g.L.ReportedOwner.reports
    (λ lent G. owner.Stands lent.owner.now G) (λ lent. owner.Trusts lent.owner.now)
    c.args.gateway.now c.serve_port.new.handler es) (λ none. none)

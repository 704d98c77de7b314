use Rattle.desk_laws.proofs.JudgedLists.{consistent}
use Rattle.headline.proofs.CallsInTurn.{goes_on}
use Rattle.headline.proofs.headline.Goals as goal

pub returns : goal.returns
returns g c = λ calls called G stands trusts.
    let after = goes_on g.L.ReportedOwner.reports g.L.Owner.Stands g.L.Owner.Trusts calls c.args.first.now c.args.last.now called G stands trusts in
    let lawful = c.is_lawful.ensures (record G { history = after.0 }) after.1 trusts in
    (after.0, after.1, after.2, lawful, consistent G.rules after.0 lawful.judged)

use Rattle.desk_types.proofs.Common.{false, refl, subst}
use Rattle.gateway_http.proofs.GetsLeaveLists.{get-told}
use Rattle.gateway_http.proofs.gateway.ask.Goals as goal

pub returns-in-Ok-clause-told : goal.returns-in-Ok-clause-told
returns-in-Ok-clause-told g c = λ G stands trusts.
    let told = c.in-Ok.ensures.told G stands trusts in
    (get-told g.L.ReportedOwner.reports G c.args.target.now _ _ (false, told.0.0, refl)).0

pub returns-in-Ok-clause-stands : goal.returns-in-Ok-clause-stands
returns-in-Ok-clause-stands g c = λ G stands trusts.
    let told = c.in-Ok.ensures.told G stands trusts in
    subst (g.L.Owner.Stands c.answer_request.new.owner) (get-told g.L.ReportedOwner.reports G c.args.target.now _ _ (false, told.0.0, refl)).1 told.0.1

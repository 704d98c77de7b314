use Rattle.desk_types.proofs.Common.{false, refl, true}
use Rattle.gateway_http.specs.{Asked.asked_of, Requests.asked_outcome}
use Rattle.gateway_http.proofs.gateway.GatewayHandler.handle.Goals as goal

pub returns-in-Ok-clause-told : goal.returns-in-Ok-clause-told
returns-in-Ok-clause-told g c = λ G stands trusts.
    let told = c.in-Ok.ensures.told G stands trusts in
    ((asked_outcome g.L.ReportedOwner.reports G c.args.body.now (asked_of c.args.method.now c.args.target.now)).after, told.0.1, (false, told.0.0, refl))

pub returns-in-Err-clause-told : goal.returns-in-Err-clause-told
returns-in-Err-clause-told g c = λ G stands trusts.
    let told = c.in-Err.ensures.told G stands trusts in
    (G, told.1, (true, c.unavailable.ensures, refl))

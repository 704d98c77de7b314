use Rattle.desk_types.proofs.Common.{false, refl, true}
use Rattle.http_stream.specs.Cut.{Request}
use Rattle.line_http.specs.Rule.{line_rule}
use Rattle.line_http.proofs.handler.LineHandlerHandler.handle.Goals as goal

pub returns-in-Ok-clause-told : goal.returns-in-Ok-clause-told
returns-in-Ok-clause-told g c = λ line stands trusts.
    let told = c.in-Ok.ensures.gives line stands trusts in
    let asked : Request = record { method = c.args.method.now; target = c.args.target.now; body = c.args.body.now } in
    ((line_rule line asked).after, told.0.1, (false, told.0.0, refl))

pub returns-in-Err-clause-told : goal.returns-in-Err-clause-told
returns-in-Err-clause-told g c = λ line stands trusts.
    let told = c.in-Err.ensures.gives line stands trusts in
    (line, told.1, (true, c.unavailable.ensures, refl))

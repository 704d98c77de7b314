use Rattle.desk_types.proofs.Common.{sym}
use Rattle.gateway_http.proofs.NoText.{route_of-none}
use Rattle.gateway_http.proofs.routes.RouteTable.route_of.Goals as goal

pub returns-in-Err : goal.returns-in-Err
returns-in-Err c = sym (route_of-none c.args.path.now c.in-Err.ensures.cases.0)

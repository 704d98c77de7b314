use Rattle.desk_types.proofs.Common.{◌∙◌, ap, sym}
use Rattle.gateway_http.proofs.Literals.{first-table}
use Rattle.std.proofs.Common.{option_map}
use Rattle.gateway_http.proofs.routes.find_route.Goals as goal

pub returns-in-Ok : goal.returns-in-Ok
returns-in-Ok c =
    let same = rw c.requires at c.in-Ok.ensures.found in
    ap (option_map (λ e. e.value)) (sym same) ∙ first-table c.args.path.now

pub returns-in-Err : goal.returns-in-Err
returns-in-Err c =
    let none = rw c.requires at c.in-Err.ensures.missing in
    ap (option_map (λ e. e.value)) (sym none) ∙ first-table c.args.path.now

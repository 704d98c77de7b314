use Rattle.gateway_http.{proofs.RepeatsLeaveLists.repeat-stays, specs.Asked.asked_of}
use Rattle.gateway_http.proofs.law.repeats_leave_the_list.Goals as goal

pub returns : goal.returns
returns c = λ reports G r e. repeat-stays reports G r.body (asked_of r.method r.target) e

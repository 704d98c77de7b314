use Rattle.gateway_http.proofs.GetsLeaveLists.{get-stays}
use Rattle.gateway_http.proofs.law.questions_leave_the_list.Goals as goal

pub returns : goal.returns
returns c = get-stays

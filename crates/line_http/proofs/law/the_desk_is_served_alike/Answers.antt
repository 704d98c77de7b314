use Rattle.line_http.proofs.DeskAlike.{connection-alike}
use Rattle.line_http.proofs.law.the_desk_is_served_alike.Goals as goal

pub returns : goal.returns
returns c = connection-alike

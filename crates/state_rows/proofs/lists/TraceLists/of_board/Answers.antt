use Rattle.desk_types.proofs.Common.{◌∙◌, ap}
use Rattle.state_rows.specs.Lists.{keys_of_installs}
use Rattle.state_rows.proofs.lists.TraceLists.of_board.Goals as goal

pub returns : goal.returns
returns c = record { listed = λ H is. ap keys_of_installs c.kept_under.ensures ∙ is.boards c.args.board.now }

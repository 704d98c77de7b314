use Rattle.desk_types.proofs.Common.{◌∙◌, ap, map}
use Rattle.state_rows.specs.Lists.{key_of}
use Rattle.state_rows.proofs.lists.TraceLists.of_lot.Goals as goal

pub returns : goal.returns
returns c = record { listed = λ H is. ap (map key_of) c.kept_under.ensures ∙ is.lots c.args.lot.now }

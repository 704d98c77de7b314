use Rattle.desk_laws.proofs.RulesOne.{nothing-found}
use Rattle.desk_laws.proofs.pieces.nothing_is_found_by_rules_one.Goals as goal

pub returns : goal.returns
returns c = nothing-found

use Rattle.desk_laws.proofs.Prefixes.{placements-final}
use Rattle.desk_laws.proofs.placements.placements_are_final.Goals as goal

pub returns : goal.returns
returns c = placements-final

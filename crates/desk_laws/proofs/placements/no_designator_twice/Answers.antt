use Rattle.desk_laws.proofs.Common.{judged-by-two}
use Rattle.desk_laws.proofs.Designators.{designators-once}
use Rattle.desk_laws.proofs.placements.no_designator_twice.Goals as goal

pub returns : goal.returns
returns c = λ rules H judged. designators-once H (judged-by-two rules H judged)

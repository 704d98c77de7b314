use Rattle.desk_laws.proofs.Common.{accepted-by-two}
use Rattle.desk_laws.proofs.CountedReels.{counts-exact}
use Rattle.desk_laws.proofs.pieces.counts_are_exact.Goals as goal

pub returns : goal.returns
returns c = λ rules H s counts none. counts-exact H s counts (accepted-by-two rules H s none)

use Rattle.desk_laws.proofs.Common.{judged-by-two}
use Rattle.desk_laws.proofs.ReelsLater.{spent-stays}
use Rattle.desk_laws.proofs.pieces.spent_stays_spent.Goals as goal

pub returns : goal.returns
returns c = λ rules G H reel before judged. spent-stays G H reel before (judged-by-two rules H judged)

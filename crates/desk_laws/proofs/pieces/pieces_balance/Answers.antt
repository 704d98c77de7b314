use Rattle.desk_laws.proofs.Common.{judged-by-two}
use Rattle.desk_laws.proofs.Balance.{balance}
use Rattle.desk_laws.proofs.pieces.pieces_balance.Goals as goal

pub returns : goal.returns
returns c = λ rules H reel judged. balance H reel (judged-by-two rules H judged)

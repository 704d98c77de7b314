use Rattle.desk_laws.proofs.Common.{accepted-by-two}
use Rattle.desk_laws.proofs.WholeInstalls.{scrap-whole}
use Rattle.desk_laws.proofs.pieces.scraps_are_whole.Goals as goal

pub returns : goal.returns
returns c = λ rules H s machine slot quantity none. scrap-whole H s machine slot quantity (accepted-by-two rules H s none)

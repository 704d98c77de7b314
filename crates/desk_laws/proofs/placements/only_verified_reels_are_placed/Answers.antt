use Rattle.desk_laws.proofs.Common.{judged-by-two}
use Rattle.desk_laws.proofs.InstalledPieces.{rightly-placed}
use Rattle.desk_laws.proofs.placements.only_verified_reels_are_placed.Goals as goal

pub returns : goal.returns
returns c = λ rules H judged. rightly-placed H (judged-by-two rules H judged)

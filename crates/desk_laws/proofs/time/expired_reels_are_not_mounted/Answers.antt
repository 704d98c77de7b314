use Rattle.desk_laws.proofs.Common.{judged-by-two}
use Rattle.desk_laws.proofs.VerifiedReels.{mounted-not_expired}
use Rattle.desk_laws.proofs.time.expired_reels_are_not_mounted.Goals as goal

pub returns : goal.returns
returns c = λ rules G H e machine slot reel before judged. mounted-not_expired G H e machine slot reel before (judged-by-two rules H judged)

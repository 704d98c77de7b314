use Rattle.desk_laws.proofs.Common.{accepted-by-two}
use Rattle.desk_laws.proofs.CountedReels.{mounted-finds-none}
use Rattle.desk_laws.proofs.pieces.mounted_reels_gain_nothing.Goals as goal

pub returns : goal.returns
returns c = λ rules H s reel none. mounted-finds-none H s reel (accepted-by-two rules H s none)

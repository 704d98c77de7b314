use Rattle.reels.proofs.StandingReels.{StandsFor-untouched}
use Rattle.reels.proofs.reel.Reel.stays.Goals as goal

pub returns : goal.returns
returns c = λ H name e stands none. StandsFor-untouched H e name c.args.self.now stands none

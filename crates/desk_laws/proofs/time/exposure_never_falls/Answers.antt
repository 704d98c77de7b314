use Rattle.desk_laws.proofs.Common.{judged-by-two}
use Rattle.desk_laws.proofs.Exposures.{exposure-later, exposure-rises}
use Rattle.desk_laws.proofs.time.exposure_never_falls.Goals as goal

pub returns-clause-minutes : goal.returns-clause-minutes
returns-clause-minutes c = exposure-rises

pub returns-clause-entries : goal.returns-clause-entries
returns-clause-entries c = λ rules G more reel earlier later judged. exposure-later G more reel earlier later (judged-by-two rules _ judged)

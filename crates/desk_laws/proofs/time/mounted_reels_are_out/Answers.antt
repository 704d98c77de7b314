use Rattle.desk_laws.proofs.Common.{judged-by-two}
use Rattle.desk_laws.proofs.Openings.{mounted-goes-on, mounted-out}
use Rattle.desk_laws.proofs.time.mounted_reels_are_out.Goals as goal

pub returns-clause-out : goal.returns-clause-out
returns-clause-out c = λ rules H reel judged. mounted-out H reel (judged-by-two rules H judged)

pub returns-clause-exposure : goal.returns-clause-exposure
returns-clause-exposure c = λ rules H reel minute judged. mounted-goes-on H reel minute (judged-by-two rules H judged)

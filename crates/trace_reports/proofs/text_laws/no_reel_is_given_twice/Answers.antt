use Rattle.desk_laws.proofs.Common.{judged-by-two}
use Rattle.trace_reports.proofs.NoReelTwice.{kit-once}
use Rattle.trace_reports.proofs.text_laws.no_reel_is_given_twice.Goals as goal

pub returns : goal.returns
returns c = λ rules H boards sheet judged. kit-once H boards sheet (judged-by-two rules H judged)

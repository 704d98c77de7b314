use Rattle.desk_laws.proofs.Common.{judged-by-two}
use Rattle.desk_laws.proofs.Lookups.{among-placed, in_work-somewhere, mounted-live, mounted-there}
use Rattle.desk_laws.proofs.Lookups.{placed-among, somewhere-in_work, tape-loaded}
use Rattle.desk_laws.proofs.searches.searches_say_the_rule.Goals as goal

pub returns-clause-mounted : goal.returns-clause-mounted
returns-clause-mounted c = λ H reel. (mounted-live H reel, mounted-there H reel)

pub returns-clause-placed : goal.returns-clause-placed
returns-clause-placed c = λ rules H board designator judged. (
  placed-among H board designator (judged-by-two rules H judged),
  among-placed H board designator (judged-by-two rules H judged),
)

pub returns-clause-in_work : goal.returns-clause-in_work
returns-clause-in_work c = λ H board. (in_work-somewhere H board, somewhere-in_work H board)

pub returns-clause-loaded : goal.returns-clause-loaded
returns-clause-loaded c = tape-loaded

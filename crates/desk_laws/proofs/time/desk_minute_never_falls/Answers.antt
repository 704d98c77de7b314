use Rattle.desk_laws.proofs.Judgements.{desk_minute-stays}
use Rattle.desk_laws.proofs.time.desk_minute_never_falls.Goals as goal

pub returns : goal.returns
returns c = desk_minute-stays

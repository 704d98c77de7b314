use Rattle.desk_laws.proofs.Exposures.{exposure-within}
use Rattle.desk_laws.proofs.time.exposure_is_no_longer.Goals as goal

pub returns : goal.returns
returns c = exposure-within

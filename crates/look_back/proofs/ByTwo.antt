-- Rules Two accept every history that either set of rules accepts.
use Rattle.desk_laws.proofs.Common.{judged-by-two}

pub ruleset by_two = (judged-by-two)

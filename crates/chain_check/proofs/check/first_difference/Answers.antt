use Rattle.chain_check.proofs.Refuted.{refuted}
use Rattle.std.proofs.lemmas.Option.{IfSome_then}
use Rattle.chain_check.proofs.check.first_difference.Goals as goal

pub returns-clause-refutes : goal.returns-clause-refutes
returns-clause-refutes c = λ H H' of_old of_new. IfSome_then c.find.result (c.find.ensures.differs H H' of_old of_new) (λ d is. refuted H H' d is)

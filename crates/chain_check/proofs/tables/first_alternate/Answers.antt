use Rattle.chain_check.proofs.SameRows.{either, none-then}
use Rattle.chain_check.proofs.tables.first_alternate.Goals as goal

pub returns : goal.returns
returns c = record {
  same = λ p q. none-then c.alternate_in-2.result (λ of_new. either _ _ (c.in_default.ensures.same p q) of_new) (c.alternate_in-2.ensures.same p q);
  differs = c.alternate_in-2.ensures.differs;
}

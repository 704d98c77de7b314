use Rattle.chain_check.proofs.SameRows.{either, none-then}
use Rattle.chain_check.proofs.tables.first_part.Goals as goal

pub returns : goal.returns
returns c = record {
  same = λ part. none-then c.part_in-2.result (λ of_new. either _ _ (c.in_default.ensures.same part) of_new) (c.part_in-2.ensures.same part);
  differs = c.part_in-2.ensures.differs;
}

use Rattle.chain_check.proofs.SameRows.{either-some, none-then}
use Rattle.chain_check.proofs.tables.first_selection.Goals as goal

pub returns : goal.returns
returns c = record {
  same = λ machine. none-then c.selection_in-2.result (λ of_new. either-some _ _ (c.in_default.ensures.same machine) of_new) (c.selection_in-2.ensures.same machine);
  differs = c.selection_in-2.ensures.differs;
}

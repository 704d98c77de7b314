use Rattle.chain_check.proofs.tables.tables_difference.Goals as goal

pub returns-in-Some-clause-differs : goal.returns-in-Some-clause-differs
returns-in-Some-clause-differs c = λ H H' judged judged' is is'. c.in-Some.ensures.differs H H' is is'

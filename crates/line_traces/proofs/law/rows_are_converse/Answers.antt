use Rattle.line_traces.proofs.Converse.{rows-converse, told-converse}
use Rattle.line_traces.proofs.law.rows_are_converse.Goals as goal

pub returns-clause-every : goal.returns-clause-every
returns-clause-every c = rows-converse

pub returns-clause-judged : goal.returns-clause-judged
returns-clause-judged c = told-converse

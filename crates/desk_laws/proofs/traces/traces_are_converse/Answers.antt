use Rattle.desk_laws.proofs.NameSets.{traces-converse}
use Rattle.desk_laws.proofs.traces.traces_are_converse.Goals as goal

pub returns : goal.returns
returns c = traces-converse

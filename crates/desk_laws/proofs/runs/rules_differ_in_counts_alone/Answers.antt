use Rattle.desk_laws.proofs.RulesOne.{refusals-agree}
use Rattle.desk_laws.proofs.runs.rules_differ_in_counts_alone.Goals as goal

pub returns : goal.returns
returns c = refusals-agree

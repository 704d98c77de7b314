use Rattle.desk_laws.proofs.JudgedLists.{consistent}
use Rattle.desk_laws.proofs.consistent.judged_lists_are_consistent.Goals as goal

pub returns : goal.returns
returns c = consistent

use Rattle.trace_reports.proofs.RecordSets.{lots-converse, parts-converse, reels-converse}
use Rattle.trace_reports.proofs.text_laws.traces_are_converse.Goals as goal

pub returns-clause-lots : goal.returns-clause-lots
returns-clause-lots c = lots-converse

pub returns-clause-parts : goal.returns-clause-parts
returns-clause-parts c = parts-converse

pub returns-clause-reels : goal.returns-clause-reels
returns-clause-reels c = reels-converse

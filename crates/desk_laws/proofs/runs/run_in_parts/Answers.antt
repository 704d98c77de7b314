use Rattle.desk_laws.proofs.Prefixes.{after-append, replies-append}
use Rattle.desk_laws.proofs.runs.run_in_parts.Goals as goal

pub returns-clause-replies : goal.returns-clause-replies
returns-clause-replies c = replies-append

pub returns-clause-entries : goal.returns-clause-entries
returns-clause-entries c = after-append

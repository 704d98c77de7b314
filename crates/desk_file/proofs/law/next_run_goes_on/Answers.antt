use Rattle.line_tables.proofs.Common.{Two}
use Rattle.desk_file.proofs.FirstLists.{held, ours_first, same_list}
use Rattle.desk_file.proofs.law.next_run_goes_on.Goals as goal

pub returns-clause-ours_first : goal.returns-clause-ours_first
returns-clause-ours_first c = λ image trees greatest H holds tables. ours_first image trees _ holds tables

pub returns-clause-held : goal.returns-clause-held
returns-clause-held c = λ image trees greatest H holds tables. held image trees _ holds tables

pub returns-clause-same : goal.returns-clause-same
returns-clause-same c = λ image trees greatest H holds tables judged. same_list image trees greatest H (c.rows_tell_lists_apart.ensures Two) holds tables judged

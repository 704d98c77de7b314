use Rattle.desk_feed.proofs.WithoutRepeats.{repeats_leave_the_list}
use Rattle.desk_feed.proofs.law.repeats_act_once.Goals as goal

pub returns : goal.returns
returns c = repeats_leave_the_list

use Rattle.http_stream.proofs.WithoutRepeats.{cut_without, left_out, same_state}
use Rattle.http_stream.proofs.law.repeats_act_once.Goals as goal

pub returns-clause-left_out : goal.returns-clause-left_out
returns-clause-left_out g c = left_out

pub returns-clause-cut : goal.returns-clause-cut
returns-clause-cut g c = cut_without

pub returns-clause-list : goal.returns-clause-list
returns-clause-list g c = same_state

use Rattle.desk_types.proofs.Common.{IfOk-weaker}
use Rattle.line_replay.proofs.ends.count_placements.Goals as goal

pub returns-in-Some-clause-counted : goal.returns-in-Some-clause-counted
returns-in-Some-clause-counted g c clean = rw c.in-Some.is (c.count_to.ensures.counted clean)

pub returns-in-None-clause-counted : goal.returns-in-None-clause-counted
returns-in-None-clause-counted g c clean = IfOk-weaker c.count.result _ _ (λ n counted. record { was_open = counted.was_open; are = λ schema before. counted.are schema }) (c.count.ensures.counted clean)

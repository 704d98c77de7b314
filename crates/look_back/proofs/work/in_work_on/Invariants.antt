use Rattle.desk_types.proofs.Common.{◌≡◌, in_work_on, length, reverse}
use Rattle.look_back.proofs.work.in_work_on.Given as goal

abbrev pub invariant-loop-entry : goal.invariant-loop-entry
invariant-loop-entry l = in_work_on (reverse l.rest) l.machine ≡ in_work_on (reverse l.entries) l.machine

abbrev pub decreases-loop-entry : goal.decreases-loop-entry
decreases-loop-entry l = length l.rest

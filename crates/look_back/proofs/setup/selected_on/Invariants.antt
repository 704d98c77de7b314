use Rattle.desk_types.proofs.Common.{◌≡◌, length, reverse, selected_on}
use Rattle.look_back.proofs.setup.selected_on.Given as goal

abbrev pub invariant-loop-entry : goal.invariant-loop-entry
invariant-loop-entry l = selected_on (reverse l.rest) l.machine ≡ selected_on (reverse l.entries) l.machine

abbrev pub decreases-loop-entry : goal.decreases-loop-entry
decreases-loop-entry l = length l.rest

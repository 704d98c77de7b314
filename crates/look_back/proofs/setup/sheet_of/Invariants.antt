use Rattle.desk_types.proofs.Common.{◌≡◌, length, reverse, sheet_of}
use Rattle.look_back.proofs.setup.sheet_of.Given as goal

abbrev pub invariant-loop-entry : goal.invariant-loop-entry
invariant-loop-entry l = sheet_of (reverse l.rest) l.product l.machine ≡ sheet_of (reverse l.entries) l.product l.machine

abbrev pub decreases-loop-entry : goal.decreases-loop-entry
decreases-loop-entry l = length l.rest

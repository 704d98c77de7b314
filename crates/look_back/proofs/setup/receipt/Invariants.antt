use Rattle.desk_types.proofs.Common.{◌≡◌, length, receipt_of, reverse}
use Rattle.look_back.proofs.setup.receipt.Given as goal

abbrev pub invariant-loop-entry : goal.invariant-loop-entry
invariant-loop-entry l = receipt_of (reverse l.rest) l.reel ≡ receipt_of (reverse l.entries) l.reel

abbrev pub decreases-loop-entry : goal.decreases-loop-entry
decreases-loop-entry l = length l.rest

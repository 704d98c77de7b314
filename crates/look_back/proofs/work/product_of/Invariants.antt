use Rattle.desk_types.proofs.Common.{◌≡◌, length, option_or, product_of, reverse}
use Rattle.look_back.proofs.work.product_of.Given as goal

-- An earlier start takes precedence over the product found so far.
abbrev pub invariant-loop-entry : goal.invariant-loop-entry
invariant-loop-entry l = option_or (product_of (reverse l.rest) l.board) l.found ≡ product_of (reverse l.entries) l.board

abbrev pub decreases-loop-entry : goal.decreases-loop-entry
decreases-loop-entry l = length l.rest

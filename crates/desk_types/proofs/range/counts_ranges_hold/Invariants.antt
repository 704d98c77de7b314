use Rattle.desk_types.proofs.Common.{AllWithin, IsCountRow}
use Rattle.desk_types.proofs.range.counts_ranges_hold.Given as goal

abbrev pub invariant-loop-row : goal.invariant-loop-row
invariant-loop-row l = AllWithin IsCountRow l.items 0 l.row-index

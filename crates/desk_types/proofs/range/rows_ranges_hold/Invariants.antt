use Rattle.desk_types.proofs.Common.{AllWithin, IsSheetRow}
use Rattle.desk_types.proofs.range.rows_ranges_hold.Given as goal

abbrev pub invariant-loop-row : goal.invariant-loop-row
invariant-loop-row l = AllWithin IsSheetRow l.items 0 l.row-index

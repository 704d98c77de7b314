use Rattle.desk_types.proofs.Common.{AllWithin, IsDesignator}
use Rattle.desk_types.proofs.range.designators_ranges_hold.Given as goal

abbrev pub invariant-loop-designator : goal.invariant-loop-designator
invariant-loop-designator l = AllWithin IsDesignator l.items 0 l.designator-index

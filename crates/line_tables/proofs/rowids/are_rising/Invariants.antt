use Rattle.desk_types.proofs.Common.{AllByRecursion, drop, take, ℤ}
use Rattle.line_tables.proofs.Common.{Int, IsBefore, IsPast}
use Rattle.line_tables.{proofs.Rising.AreAbove, proofs.Rising.DoRise, specs.Rising.AreRising}
use Rattle.line_tables.proofs.rowids.are_rising.Given as goal

abbrev pub invariant-loop-row : goal.invariant-loop-row
invariant-loop-row l = record {
  rising : AreRising (take l.row-index l.rows);
  below : (n : ℤ) → IsPast l.last n → AllByRecursion (IsBefore (Int n)) (take l.row-index l.rows);
  above : DoRise l.rows → DoRise (drop l.row-index l.rows) × AreAbove l.last (drop l.row-index l.rows);
}

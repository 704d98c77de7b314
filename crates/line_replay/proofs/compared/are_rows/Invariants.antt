use Rattle.desk_types.proofs.Common.{map}
use Rattle.line_tables.proofs.Common.{HasCleanDisk, ReadsOnly, state}
use Rattle.line_replay.specs.{Alone.AreMatched, TableNames.table_of}
use Rattle.line_replay.proofs.compared.are_rows.Given as goal

abbrev pub invariant-loop-row : goal.invariant-loop-row
invariant-loop-row g l =
    let old = state g.S.Store l.fn.conn in
    let now = state g.S.Store l.conn in record {
      can : (goal.iterator-loop-row g).can_next l.row-iterator;
      ends : (goal.iterator-loop-row g).is_finite l.row-iterator;
      matched : HasCleanDisk now → AreMatched (table_of l.fn.table) g.E.ExpectedRow.has g.E.ExpectedRow.columns old l.left (map g.E.ExpectedRow.entry l.yielded);
      reads : ReadsOnly g.S.Store l.fn.conn l.conn;
    }

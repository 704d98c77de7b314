use Rattle.desk_types.proofs.Common.{◌<◌, AllByRecursion, IsTrue, Option, take, ℕ}
use Rattle.line_tables.proofs.Common.{HasCleanDisk, IsOurs, ReadsOnly, state}
use Rattle.desk_types.specs.declared.row.PlacementRow.{PlacementRow}
use Rattle.line_replay.specs.Audit.{HoldsTable, IsExpected, Pieces, with_placements}
use Rattle.state_rows.specs.Kept.{tables_in}
use Rattle.line_replay.proofs.auditing.audit_tables.Given as goal

abbrev pub invariant-loop-table : goal.invariant-loop-table
invariant-loop-table g l =
    let old = state g.S.Store l.fn.conn in
    let now = state g.S.Store l.conn in record {
      opened : HasCleanDisk now → (f : ℕ × ℕ → Option PlacementRow) → (es : Pieces) → IsExpected old l.placed es f → 0 < l.table-index → IsTrue old.is_open;
      right : HasCleanDisk now → (f : ℕ × ℕ → Option PlacementRow) → (es : Pieces) → IsExpected old l.placed es f → IsOurs old.committed.schema
          → AllByRecursion (HoldsTable old.committed (with_placements f (tables_in l.rows))) (take l.table-index l.tables);
      reads : ReadsOnly g.S.Store l.fn.conn l.conn;
    }

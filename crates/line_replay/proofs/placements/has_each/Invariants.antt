use Rattle.desk_types.proofs.Common.{◌<◌, IsTrue, take}
use Rattle.line_tables.proofs.Common.{HasCleanDisk, IsOurs, ReadsOnly, state}
use Rattle.line_replay.specs.Placed.{AreHere}
use Rattle.line_replay.proofs.placements.has_each.Given as goal

abbrev pub invariant-loop-row : goal.invariant-loop-row
invariant-loop-row g l =
    let old = state g.S.Store l.fn.conn in
    let now = state g.S.Store l.conn in record {
      opened : HasCleanDisk now → 0 < l.row-index → IsTrue old.is_open;
      here : HasCleanDisk now → IsOurs old.committed.schema → AreHere old.committed (take l.row-index l.rows);
      reads : ReadsOnly g.S.Store l.fn.conn l.conn;
    }

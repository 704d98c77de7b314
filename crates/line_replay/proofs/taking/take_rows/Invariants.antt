use Rattle.desk_types.proofs.Common.{basis, History}
use Rattle.line_tables.proofs.Common.{HasCleanDisk, ReadsOnly, state}
use Rattle.line_replay.specs.{Expected.kept_with, Replay.IsTaken, Replay.StandsListed}
use Rattle.line_replay.proofs.taking.take_rows.Given as goal

abbrev pub invariant-loop-number : goal.invariant-loop-number
invariant-loop-number g l =
    let old = state g.S.Store l.fn.conn in
    let now = state g.S.Store l.conn in record {
      taken : (H : History) × IsTaken (StandsListed g.D.Desk.Stands) (basis l.fn.rules H) (HasCleanDisk now) old.committed (l.desk, l.lists) (kept_with (g.D.KeepsRows.kept_rows l.desk) l.placed) l.number;
      reads : ReadsOnly g.S.Store l.fn.conn l.conn;
    }

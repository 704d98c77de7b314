use Rattle.desk_types.proofs.Common.{◌++◌, ◌≡◌, History, IsTrue, length, map, Some}
use Rattle.line_tables.proofs.Common.{HasCleanDisk, IsOurs, ReadsOnly, state}
use Rattle.line_traces.specs.{Pieces.piece_at, Working.HoldsBoth}
use Rattle.state_rows.specs.Lists.{key_of}
use Rattle.line_traces.proofs.looked.pieces_at.Given as goal

abbrev pub invariant-loop-left : goal.invariant-loop-left
invariant-loop-left g l =
    let old = state g.S.Store l.fn.conn in
    let now = state g.S.Store l.conn in record {
      opened : HasCleanDisk now → IsTrue old.is_open;
      told : HasCleanDisk now → IsOurs old.committed.schema → (H : History) → HoldsBoth g.D.Desk.Stands (Some l.working) old.committed H
          → map Some l.pieces.items ++ map (piece_at H) (map key_of l.left) ≡ map (piece_at H) (map key_of l.keys);
      reads : ReadsOnly g.S.Store l.fn.conn l.conn;
    }

abbrev pub decreases-loop-left : goal.decreases-loop-left
decreases-loop-left g l = length l.left

use Rattle.desk_types.proofs.Common.{History, map, Some, take}
use Rattle.line_tables.proofs.Common.{Database}
use Rattle.line_tables.specs.Shown.{AreOf}
use Rattle.line_traces.specs.Working.{AddsPieces, HoldsBoth}
use Rattle.state_rows.specs.Lists.{key_of}
use Rattle.line_tables.specs.Line as line
use Rattle.line_traces.proofs.looked.add_rows.Given as goal

abbrev pub invariant-loop-at : goal.invariant-loop-at
invariant-loop-at g l =
    (db : Database) (H : History) → HoldsBoth g.D.Desk.Stands (Some l.working) db H → AreOf line.placement l.rows db
    → AddsPieces H (map key_of (take l.at l.keys)) l.initial.pieces.items l.pieces.items

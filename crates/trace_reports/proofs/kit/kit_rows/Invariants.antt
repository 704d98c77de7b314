use Rattle.desk_types.proofs.Common.{[], ◌++◌, ◌≡◌, Basis, drop, List, Name}
use Rattle.setup_sheets.specs.Names.{HasSeen}
use Rattle.trace_reports.specs.Kit.{kit_rows}
use Rattle.trace_reports.proofs.kit.kit_rows.Given as goal

-- The rows so far, with those of the remaining sheet rows, are the kit.
abbrev pub invariant-loop-row : goal.invariant-loop-row
invariant-loop-row g l = (B : Basis) → g.D.Desk.Stands l.desk B
    → (names : List Name) × HasSeen l.given names × (l.kit.items ++ kit_rows B.history l.boards names (drop l.row-index l.sheet) ≡ kit_rows B.history l.boards [] l.sheet)

use Rattle.desk_types.proofs.Common.{◌≡◌, drop, map}
use Rattle.trace_reports.specs.Sets.{bytes_of, set_of}
use Rattle.trace_reports.specs.Traces.{board_columns, on_board, project}
use Rattle.trace_reports.proofs.records.board_rows.Given as goal

-- The set has the rows of the pieces from here on.
abbrev pub invariant-loop-i : goal.invariant-loop-i
invariant-loop-i l = map (λ r. bytes_of r.items) l.rows.keys ≡ set_of (map (λ p. project (board_columns l.detail) (on_board p)) (drop l.i l.pieces))

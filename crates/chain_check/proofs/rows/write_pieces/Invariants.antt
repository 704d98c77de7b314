use Rattle.desk_types.proofs.Common.{◌++◌, List, map, take, ℕ}
use Rattle.chain_check.specs.Rows.{piece_row, rows_text}
use Rattle.trace_reports.specs.Csv.{HasWritten}
use Rattle.chain_check.proofs.rows.write_pieces.Given as goal

-- The rows so far were written behind any earlier text.
abbrev pub invariant-loop-piece : goal.invariant-loop-piece
invariant-loop-piece l = (text : List ℕ) → HasWritten l.fn.writer text → HasWritten l.writer (text ++ rows_text (map (piece_row l.path) (take l.piece-index l.pieces)))

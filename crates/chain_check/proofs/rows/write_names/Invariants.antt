use Rattle.desk_types.proofs.Common.{◌++◌, List, map, take, ℕ}
use Rattle.chain_check.specs.Rows.{name_row, rows_text}
use Rattle.trace_reports.specs.Csv.{HasWritten}
use Rattle.chain_check.proofs.rows.write_names.Given as goal

-- The rows so far were written behind any earlier text.
abbrev pub invariant-loop-name : goal.invariant-loop-name
invariant-loop-name l = (text : List ℕ) → HasWritten l.fn.writer text → HasWritten l.writer (text ++ rows_text (map (name_row l.path) (take l.name-index l.names)))

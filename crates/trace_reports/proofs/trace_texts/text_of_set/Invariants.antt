use Rattle.desk_types.proofs.Common.{◌++◌, ◌≡◌, flat_map, List, map, ℕ}
use Rattle.trace_reports.specs.{Csv.csv_text, Csv.HasWritten, Csv.record_text, Sets.bytes_of}
use Rattle.trace_reports.proofs.trace_texts.text_of_set.Given as goal

-- The written rows, then the remaining ones.
abbrev pub invariant-loop-row : goal.invariant-loop-row
invariant-loop-row l = (done : List ℕ) × HasWritten l.writer done
    × (done ++ flat_map record_text (map (λ r. bytes_of r.items) l.row-iterator) ≡ csv_text (bytes_of l.header) (map (λ r. bytes_of r.items) l.rows.keys))

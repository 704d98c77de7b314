-- The reports on a history.
use Rattle.std.specs.Prelude.{◌≡◌, ◌⊎◌, ℕ, Option, Some, None, List, drop, Result, Ok, Err}
use Rattle.std.specs.Option.{option_map}
use Rattle.csv.specs.Reading.{records, default_config}
use Rattle.desk_types.specs.Id.{Name}
use Rattle.desk_types.specs.History.{History}
use Rattle.desk_types.specs.Placements.{overdue_of}
use Rattle.line_traces.specs.Pieces as traced
use Rattle.desk_types.specs.declared.trace_detail.TraceDetail.{TraceDetail}
use Rattle.trace_reports.specs.Traces.{board_text, lot_text, overdue_text}
use Rattle.trace_reports.specs.Sets.{Fields}
use Rattle.trace_reports.specs.declared.kind.Kind.{Kind}
use Rattle.trace_reports.specs.declared.fault.ReportFault.{ReportFault}
use Rattle.trace_reports.specs.declared.fault.ReportFault.TheVariants.{NotFound, Unavailable}

-- The trace of a board that some entry started.
abbrev pub board_trace : TraceDetail → History → Name → Option (List ℕ)
board_trace detail H board = option_map (board_text detail) (traced.board_trace H board)

-- The trace of a lot with a received reel.
abbrev pub lot_trace : TraceDetail → History → Name → Option (List ℕ)
lot_trace detail H lot = option_map (lot_text detail) (traced.lot_trace H lot)

-- The pieces placed past floor life, by number, then place.
abbrev pub overdue_list : History → List ℕ
overdue_list H = overdue_text (overdue_of H)

-- The result of a call: the report if there is one, or that its subject is not found. Either may be
-- Unavailable instead.
abbrev pub Answers : Kind → Option (List ℕ) → Result (List ℕ) ReportFault → Type 0
Answers kind (Some text) (Ok told) = told ≡ text
Answers kind (Some text) (Err fault) = fault ≡ Unavailable
Answers kind None (Ok told) = ⊥
Answers kind None (Err fault) = (fault ≡ NotFound kind) ⊎ (fault ≡ Unavailable)

-- The same for a report that always exists.
abbrev pub AnswersAlways : List ℕ → Result (List ℕ) ReportFault → Type 0
AnswersAlways text (Ok told) = told ≡ text
AnswersAlways text (Err fault) = fault ≡ Unavailable

-- ---- the records of traces

-- The records that `csv` reads from a report, below its header.
abbrev pub rows_below : List ℕ → List Fields
rows_below text = drop 1 (records default_config text)

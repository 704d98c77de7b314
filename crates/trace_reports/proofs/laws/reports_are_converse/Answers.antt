use Rattle.desk_types.proofs.Common.{[], ◌↔◌, ◌∷◌, ◌≡◌, Contains, History, List, Name, placements_of, Some}
use Rattle.desk_types.proofs.Common.{subst₂, sym, ℕ}
use Rattle.desk_laws.proofs.Common.{Placement, Three}
use Rattle.csv.specs.Reading.{default_config, records}
use Rattle.desk_types.specs.declared.trace_detail.TraceDetail.{TraceDetail}
use Rattle.desk_types.specs.declared.trace_detail.TraceDetail.TheVariants.{One, Two}
use Rattle.trace_reports.proofs.ReportedPieces.{found-rows}
use Rattle.trace_reports.specs.Reports.{board_trace, lot_trace, rows_below}
use Rattle.trace_reports.specs.Traces.{board_columns, board_header, board_rows, board_text, lot_columns}
use Rattle.trace_reports.specs.Traces.{lot_header, lot_rows, lot_text, pieces_of_lot, pieces_on, project}
use Rattle.line_traces.specs.Pieces as traced
use Rattle.trace_reports.proofs.laws.reports_are_converse.Goals as goal

-- The records read from a board's trace, if its texts can be read back.
on-board : ((detail : TraceDetail) (pieces : List Placement) → records default_config (board_text detail pieces) ≡ project (board_columns detail) board_header ∷ board_rows detail pieces)
    → (detail : TraceDetail) (H : History) (board : Name) (printed : List ℕ) → board_trace detail H board ≡ Some printed
    → rows_below printed ≡ board_rows detail (pieces_on board (placements_of H))
on-board back detail H board printed found =
    found-rows (traced.is_board H board) (board_text detail) (project (board_columns detail) board_header) (board_rows detail) (back detail) (traced.pieces_on H board) printed found

of-lot : ((detail : TraceDetail) (pieces : List Placement) → records default_config (lot_text detail pieces) ≡ project (lot_columns detail) lot_header ∷ lot_rows detail pieces)
    → (detail : TraceDetail) (H : History) (lot : Name) (printed : List ℕ) → lot_trace detail H lot ≡ Some printed
    → rows_below printed ≡ lot_rows detail (pieces_of_lot lot (placements_of H))
of-lot back detail H lot printed found =
    found-rows (traced.is_lot H lot) (lot_text detail) (project (lot_columns detail) lot_header) (lot_rows detail) (back detail) (traced.pieces_of_lot H lot) printed found

pub returns-clause-lots : goal.returns-clause-lots
returns-clause-lots c = λ H board lot on of found known.
    subst₂ (λ xs ys. ((part : Name) × Contains xs (part ∷ lot ∷ [])) ↔ Contains ys (board ∷ []))
    (sym (on-board c.reports_read_back.ensures.board Two H board on found)) (sym (of-lot c.reports_read_back.ensures.lot One H lot of known)) (c.traces_are_converse.ensures.lots (placements_of H) board lot)

pub returns-clause-reels : goal.returns-clause-reels
returns-clause-reels c = λ H board part lot reel on of found known.
    subst₂ (λ xs ys. Contains xs (part ∷ lot ∷ reel ∷ []) ↔ Contains ys (board ∷ part ∷ reel ∷ []))
    (sym (on-board c.reports_read_back.ensures.board Three H board on found)) (sym (of-lot c.reports_read_back.ensures.lot Three H lot of known)) (c.traces_are_converse.ensures.reels (placements_of H) board part lot reel)

-- Each record of a report has at least one field.
use Rattle.desk_types.proofs.Common.{[], ◌∷◌, ◌≢◌, All, All-cons, All-nil, List, map}
use Rattle.desk_laws.proofs.Common.{Placement, Three}
use Rattle.desk_types.specs.declared.trace_detail.TraceDetail.{TraceDetail}
use Rattle.desk_types.specs.declared.trace_detail.TraceDetail.TheVariants.{Four, One, Two}
use Rattle.std.proofs.lemmas.Map.Views.{All-insert_key}
use Rattle.trace_reports.specs.Sets.{by_fields, Fields, set_of}
use Rattle.trace_reports.specs.Traces.{board_columns, board_header, board_rows, lot_columns, lot_header}
use Rattle.trace_reports.specs.Traces.{lot_rows, overdue_header, overdue_row, project}

abbrev pub HasField : Fields → Type 0
HasField row = row ≢ []

whole-set : (read : Placement → Fields) (pieces : List Placement) → ((p : Placement) → HasField (read p)) → All HasField (set_of (map read pieces))
whole-set read [] each = All-nil HasField
whole-set read (p ∷ ps) each = All-insert_key by_fields (read p) HasField (set_of (map read ps)) (whole-set read ps each) (each p)

whole-map : (read : Placement → Fields) (pieces : List Placement) → ((p : Placement) → HasField (read p)) → All HasField (map read pieces)
whole-map read [] each = All-nil HasField
whole-map read (p ∷ ps) each = All-cons HasField (read p) (map read ps) (each p) (whole-map read ps each)

pub board-whole : (detail : TraceDetail) (pieces : List Placement) → All HasField (project (board_columns detail) board_header ∷ board_rows detail pieces)
board-whole One pieces = All-cons HasField _ _ (λ e. cc) (whole-set _ pieces (λ p e. cc))
board-whole Two pieces = All-cons HasField _ _ (λ e. cc) (whole-set _ pieces (λ p e. cc))
board-whole Three pieces = All-cons HasField _ _ (λ e. cc) (whole-set _ pieces (λ p e. cc))
board-whole Four pieces = All-cons HasField _ _ (λ e. cc) (whole-set _ pieces (λ p e. cc))

pub lot-whole : (detail : TraceDetail) (pieces : List Placement) → All HasField (project (lot_columns detail) lot_header ∷ lot_rows detail pieces)
lot-whole One pieces = All-cons HasField _ _ (λ e. cc) (whole-set _ pieces (λ p e. cc))
lot-whole Two pieces = All-cons HasField _ _ (λ e. cc) (whole-set _ pieces (λ p e. cc))
lot-whole Three pieces = All-cons HasField _ _ (λ e. cc) (whole-set _ pieces (λ p e. cc))
lot-whole Four pieces = All-cons HasField _ _ (λ e. cc) (whole-set _ pieces (λ p e. cc))

pub overdue-whole : (pieces : List Placement) → All HasField (overdue_header ∷ map overdue_row pieces)
overdue-whole pieces = All-cons HasField _ _ (λ e. cc) (whole-map overdue_row pieces (λ p e. cc))

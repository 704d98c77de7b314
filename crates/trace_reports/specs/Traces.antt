-- The reports of placed pieces: their content and their text.
use Rattle.std.specs.Prelude.{ℕ, Bool, List, [], ◌∷◌, map, get_or, codes, decimal, if◌then◌else◌}
use Rattle.std.specs.List.{filter}
use Rattle.desk_types.specs.Id.{Name, same}
use Rattle.desk_types.specs.declared.placement.Placement.{Placement}
use Rattle.desk_types.specs.declared.trace_detail.TraceDetail.{TraceDetail}
use Rattle.desk_types.specs.declared.trace_detail.TraceDetail.TheVariants.{One, Two, Three, Four}
use Rattle.trace_reports.specs.Csv.{csv_text}
use Rattle.trace_reports.specs.Sets.{Fields, set_of}

-- A record's columns at these places, from 0.
abbrev pub project : List ℕ → Fields → Fields
project columns row = map (λ i. get_or row i []) columns

abbrev pub yes_or_no : Bool → List ℕ
yes_or_no b = if b then codes "yes" else codes "no"

-- ---- trace of a board

-- The columns at detail 4.
abbrev pub board_header : Fields
board_header = codes "designator" ∷ codes "part" ∷ codes "lot" ∷ codes "reel" ∷ codes "machine"
    ∷ codes "slot" ∷ codes "overdue" ∷ []

abbrev pub on_board : Placement → Fields
on_board p = p.designator ∷ p.part ∷ p.lot ∷ p.reel ∷ p.machine ∷ p.slot ∷ yes_or_no p.overdue ∷ []

-- The columns at each detail: part; part and lot; part, lot and reel; all.
abbrev pub board_columns : TraceDetail → List ℕ
board_columns One = 1 ∷ []
board_columns Two = 1 ∷ 2 ∷ []
board_columns Three = 1 ∷ 2 ∷ 3 ∷ []
board_columns Four = 0 ∷ 1 ∷ 2 ∷ 3 ∷ 4 ∷ 5 ∷ 6 ∷ []

-- The rows at a detail: its columns for each piece, sorted by fields and bytes, without duplicates.
abbrev pub board_rows : TraceDetail → List Placement → List Fields
board_rows detail pieces = set_of (map (λ p. project (board_columns detail) (on_board p)) pieces)

-- A board's trace from its pieces: a header and these rows.
abbrev pub board_text : TraceDetail → List Placement → List ℕ
board_text detail pieces =
    csv_text (project (board_columns detail) board_header) (board_rows detail pieces)

-- ---- trace of a lot

-- The columns at detail 4.
abbrev pub lot_header : Fields
lot_header = codes "board" ∷ codes "designator" ∷ codes "part" ∷ codes "reel" ∷ codes "machine"
    ∷ codes "slot" ∷ codes "overdue" ∷ []

abbrev pub of_lot : Placement → Fields
of_lot p = p.board ∷ p.designator ∷ p.part ∷ p.reel ∷ p.machine ∷ p.slot ∷ yes_or_no p.overdue ∷ []

-- The columns at each detail: board; board and part; board, part and reel; all.
abbrev pub lot_columns : TraceDetail → List ℕ
lot_columns One = 0 ∷ []
lot_columns Two = 0 ∷ 2 ∷ []
lot_columns Three = 0 ∷ 2 ∷ 3 ∷ []
lot_columns Four = 0 ∷ 1 ∷ 2 ∷ 3 ∷ 4 ∷ 5 ∷ 6 ∷ []

-- The rows at a detail, in the same way.
abbrev pub lot_rows : TraceDetail → List Placement → List Fields
lot_rows detail pieces = set_of (map (λ p. project (lot_columns detail) (of_lot p)) pieces)

-- A lot's trace from its pieces.
abbrev pub lot_text : TraceDetail → List Placement → List ℕ
lot_text detail pieces = csv_text (project (lot_columns detail) lot_header) (lot_rows detail pieces)

-- ---- overdue list

abbrev pub overdue_header : Fields
overdue_header = codes "board" ∷ codes "designator" ∷ codes "reel" ∷ codes "minute" ∷ []

-- The overdue list's row for a piece: its place, its reel, and its install's effective minute.
abbrev pub overdue_row : Placement → Fields
overdue_row p = p.board ∷ p.designator ∷ p.reel ∷ decimal p.effective ∷ []

-- The list of overdue pieces, in order.
abbrev pub overdue_text : List Placement → List ℕ
overdue_text pieces = csv_text overdue_header (map overdue_row pieces)

-- ---- pieces

-- The pieces on the board.
abbrev pub pieces_on : Name → List Placement → List Placement
pieces_on board pieces = filter (λ p. same p.board board) pieces

-- The pieces from the lot.
abbrev pub pieces_of_lot : Name → List Placement → List Placement
pieces_of_lot lot pieces = filter (λ p. same p.lot lot) pieces

-- The placed pieces of a history, as the calls return them.
use Rattle.std.specs.Prelude.{◌↔◌, ◌==◌, ◌&&◌, Bool, false, Contains, Option, Some, None, List, [], map, if◌then◌else◌, unwrap_or}
use Rattle.std.specs.List.{filter, find, list_any}
use Rattle.desk_types.specs.declared.command.Command.{Command}
use Rattle.desk_types.specs.declared.command.Command.TheVariants.{ReelReceived, WorkStarted}
use Rattle.desk_types.specs.declared.command.Entry.{Entry}
use Rattle.desk_types.specs.declared.placement.Placement.{Placement}
use Rattle.desk_types.specs.Id.{Name, same}
use Rattle.desk_types.specs.History.{History}
use Rattle.desk_types.specs.Placements.{placements_of, boards_of}
use Rattle.state_rows.specs.Lists.{Key}

-- ---- pieces

-- The pieces that pass a test, by number and then by place.
abbrev pub pieces_where : (Placement → Bool) → History → List Placement
pieces_where test H = filter test (placements_of H)

-- The pieces on the board.
abbrev pub pieces_on : History → Name → List Placement
pieces_on H board = pieces_where (λ p. same p.board board) H

-- The pieces of the lot.
abbrev pub pieces_of_lot : History → Name → List Placement
pieces_of_lot H lot = pieces_where (λ p. same p.lot lot) H

-- The piece with this key: the number of its entry, and its place in the message.
abbrev pub piece_at : History → Key → Option Placement
piece_at H key = find (λ (p : Placement). p.number == key.0 && p.place == key.1) (placements_of H)

-- ---- names

-- Whether the command starts work on the board.
abbrev pub starts : Name → Command → Bool
starts board (WorkStarted machine b) = same b board
starts board _ = false

-- Whether some entry starts work on the board.
abbrev pub is_board : History → Name → Bool
is_board H board = list_any (λ (e : Entry). starts board e.stamped.command) H

-- Whether the command receives a reel of the lot.
abbrev pub receives : Name → Command → Bool
receives lot (ReelReceived reel part l moisture quantity) = same l lot
receives lot _ = false

-- Whether some entry receives a reel of the lot.
abbrev pub is_lot : History → Name → Bool
is_lot H lot = list_any (λ (e : Entry). receives lot e.stamped.command) H

-- ---- traces

-- The pieces on a board that was started.
abbrev pub board_trace : History → Name → Option (List Placement)
board_trace H board = if is_board H board then Some (pieces_on H board) else None

-- The pieces of a lot, if one of its reels was received.
abbrev pub lot_trace : History → Name → Option (List Placement)
lot_trace H lot = if is_lot H lot then Some (pieces_of_lot H lot) else None

-- The boards that hold a piece of such a lot.
abbrev pub lot_board_names : History → Name → Option (List Name)
lot_board_names H lot = if is_lot H lot then Some (boards_of H lot) else None

-- The traces of a board and of a lot agree. The lot is among the lots of the board's pieces exactly when the board is
-- among the lot's boards. A board that was not started has no piece, and a lot that was not received is on no board.
abbrev pub AreConverse : Name → Option (List Placement) → Name → Option (List Name) → Type 0
AreConverse board pieces lot boards = Contains (map
    (λ (p : Placement). p.lot) (unwrap_or pieces [])) lot ↔ Contains (unwrap_or boards []) board

-- The pieces that commands take off reels, and the pieces that remain. Some definitions take the
-- first of several rows or entries, although a reachable history has only one.
use Rattle.std.specs.Prelude.{ℕ, ◌+◌, ◌-◌, min, nat_lt, Bool, true, false, not, Option, Some, None, List, [], ◌∷◌, ◌++◌, if◌then◌else◌, unwrap_or}
use Rattle.std.specs.Option.{option_and_then, option_map, option_map_or, option_to_list}
use Rattle.std.specs.List.{list_any, find, filter, sum_by}
use Rattle.desk_types.specs.declared.command.Command.{Command}
use Rattle.desk_types.specs.declared.command.Command.TheVariants.{ReelReceived, MaterialsLoaded, MaterialsInstalled, MaterialsScrapped, CountsTaken}
use Rattle.desk_types.specs.declared.command.Entry.{Entry}
use Rattle.desk_types.specs.declared.command.Receipt.{Receipt}
use Rattle.desk_types.specs.declared.count.CountRow.{CountRow}
use Rattle.desk_types.specs.declared.take.Pick.{Pick}
use Rattle.desk_types.specs.declared.take.Purpose.{Purpose}
use Rattle.desk_types.specs.declared.take.Purpose.TheVariants.{Placed, Rejected, Counted}
use Rattle.desk_types.specs.Id.{Name, same}
use Rattle.desk_types.specs.History.{History}
use Rattle.desk_types.specs.Setup.{slot_on, receipt_of}
use Rattle.desk_types.specs.Tape.{tape_of}

-- ---- pieces taken by a command

-- The number of pieces picked from the reel.
abbrev pub pieces_picked : List Pick → Name → ℕ
pieces_picked picks reel = sum_by (λ p. if same p.reel reel then p.quantity else 0) picks

-- A pick of n pieces, or no pick if n is 0.
abbrev pub pieces_off : Name → ℕ → Purpose → List Pick
pieces_off reel n purpose =
    if nat_lt 0 n then record { reel = reel; quantity = n; purpose = purpose } ∷ [] else []

-- The context of an install: machine, board, and lookups.
pub record Bench : Type 0 where
  pub machine : Name
  pub board : Name
  pub slot_of : Name → Option Name
  pub tape : Name → List Name
  pub pieces : Name → ℕ

-- The context after H, with these tapes and pieces.
abbrev pub bench_by : (Name → Name → List Name) → (Name → ℕ) → History → Name → Name → Bench
bench_by tape pieces H machine board = record {
  machine = machine;
  board = board;
  slot_of = slot_on H machine;
  tape = tape machine;
  pieces = pieces;
}

-- One piece for a designator, from the first reel on its slot's tape with a piece left after
-- earlier picks.
abbrev pub pick_for : Bench → List Pick → Name → Option Pick
pick_for bench before d = option_and_then (λ slot. option_map (λ reel.
    record { reel = reel; quantity = 1; purpose = Placed bench.board d bench.machine slot })
    (find (λ reel. nat_lt (pieces_picked before reel) (bench.pieces reel)) (bench.tape slot)))
    (bench.slot_of d)

-- Earlier picks, followed by one piece for each designator in order.
unfoldable pub install_picks : Bench → List Pick → List Name → List Pick
install_picks bench before [] = before
install_picks bench before (d ∷ ds) =
    install_picks bench (before ++ option_to_list (pick_for bench before d)) ds

-- The picks of n pieces from the tape, starting at its front reel.
abbrev pub scrap_picks : (Name → ℕ) → Purpose → List Name → ℕ → List Pick
scrap_picks pieces purpose [] n = []
scrap_picks pieces purpose (r ∷ rs) n =
    pieces_off r (min n (pieces r)) purpose ++ scrap_picks pieces purpose rs (n - pieces r)

-- For each counted reel, the pieces that are missing at the count.
abbrev pub count_picks : (Name → ℕ) → List CountRow → List Pick
count_picks pieces [] = []
count_picks pieces (row ∷ rows) = pieces_off row.reel (pieces row.reel - row.quantity) Counted
    ++ count_picks pieces rows

-- The command's picks after H, if `pieces` gives the pieces left on each reel.
abbrev pub picks_from : (Name → ℕ) → History → Command → List Pick
picks_from pieces H (MaterialsInstalled machine board designators) =
    install_picks (bench_by (tape_of H) pieces H machine board) [] designators
picks_from pieces H (MaterialsScrapped machine slot quantity) =
    scrap_picks pieces (Rejected machine slot) (tape_of H machine slot) quantity
picks_from pieces H (CountsTaken counts) = count_picks pieces counts
picks_from pieces H _ = []

-- ---- remaining pieces

-- The reel's pieces according to a receipt or a count.
abbrev pub pieces_by : Name → Command → Option ℕ
pieces_by reel (ReelReceived r part lot moisture quantity) = if same r reel
    then Some quantity else None
pieces_by reel (CountsTaken counts) =
    option_map (λ (row : CountRow). row.quantity) (find (λ row. same row.reel reel) counts)
pieces_by reel _ = None

-- The reel's remaining pieces: its last receipt or count, less later takes.
unfoldable pub left_of : History → Name → ℕ
left_of [] reel = 0
left_of (e ∷ H) reel = unwrap_or (pieces_by reel e.stamped.command)
    (left_of H reel - pieces_picked (picks_from (left_of H) H e.stamped.command) reel)

-- The context of an install after H.
abbrev pub bench_of : History → Name → Name → Bench
bench_of H machine board = bench_by (tape_of H) (left_of H) H machine board

-- The command's picks after H.
abbrev pub picks_of : History → Command → List Pick
picks_of H command = picks_from (left_of H) H command

-- ---- totals of a reel

-- Every pick of the history, oldest first.
unfoldable pub all_picks : History → List Pick
all_picks [] = []
all_picks (e ∷ H) = all_picks H ++ picks_of H e.stamped.command

abbrev pub is_placed : Purpose → Bool
is_placed (Placed board designator machine slot) = true
is_placed _ = false

-- The pieces that a count finds in addition to those remaining.
abbrev pub found_by : ℕ → Name → Command → ℕ
found_by left reel (CountsTaken counts) = option_map_or
    (λ (row : CountRow). row.quantity - left) (find (λ row. same row.reel reel) counts) 0
found_by left reel _ = 0

-- The pieces that counts found on the reel.
unfoldable pub found_of : History → Name → ℕ
found_of [] reel = 0
found_of (e ∷ H) reel = found_of H reel + found_by (left_of H reel) reel e.stamped.command

-- The received pieces: those of the receipt, and those found later.
abbrev pub received_of : History → Name → ℕ
received_of H reel = option_map_or
    (λ (r : Receipt). r.quantity) (receipt_of H reel) 0 + found_of H reel

-- The pieces placed on boards.
abbrev pub placed_of : History → Name → ℕ
placed_of H reel = pieces_picked (filter (λ p. is_placed p.purpose) (all_picks H)) reel

-- The pieces scrapped, or missing at a count.
abbrev pub scrapped_of : History → Name → ℕ
scrapped_of H reel = pieces_picked (filter (λ p. not (is_placed p.purpose)) (all_picks H)) reel

-- ---- live reels

-- The slot's live reels: those on its tape with pieces left.
unfoldable pub live_on : History → Name → Name → List Name
live_on H machine slot = filter (λ reel. nat_lt 0 (left_of H reel)) (tape_of H machine slot)

-- The first name, if any.
abbrev pub first : List Name → Option Name
first [] = None
first (x ∷ xs) = Some x

-- The front of a slot: its first live reel.
abbrev pub front_of : History → Name → Name → Option Name
front_of H machine slot = first (live_on H machine slot)

-- Whether the command loads a slot where the reel is live after H.
abbrev pub is_live_where_loaded : History → Name → Command → Bool
is_live_where_loaded H reel (MaterialsLoaded m s r) = list_any (same reel) (live_on H m s)
is_live_where_loaded H reel _ = false

-- Whether the reel is live on some slot. Only slots that an entry loaded are tried, since no other
-- slot has a tape.
abbrev pub is_mounted : History → Name → Bool
is_mounted H reel = list_any (λ (e : Entry). is_live_where_loaded H reel e.stamped.command) H

-- Traces: the place, reel and lot of each placed piece.
use Rattle.std.specs.Prelude.{ℕ, Option, Some, None, List, [], ◌∷◌, ◌++◌, map}
use Rattle.std.specs.List.{filter, filter_map, enumerate_from}
use Rattle.std.specs.BTreeSet.{insert_key}
use Rattle.desk_types.specs.declared.command.Entry.{Entry}
use Rattle.desk_types.specs.declared.placement.Placement.{Placement}
use Rattle.desk_types.specs.declared.take.Purpose.{Purpose}
use Rattle.desk_types.specs.declared.take.Purpose.TheVariants.{Placed}
use Rattle.desk_types.specs.declared.take.Take.{Take}
use Rattle.desk_types.specs.Id.{Name, same, by_name}
use Rattle.desk_types.specs.History.{History}
use Rattle.desk_types.specs.Outcome.{takes_by}

-- ---- takes

-- A take with its entry's number and effective minute, and its place within that entry, from 1. For
-- an install this is the designator's place in the message.
pub record EntryTake : Type 0 where
  pub number : ℕ
  pub place : ℕ
  pub effective : ℕ
  pub take : Take

-- The takes of the entry after H, numbered from 1.
abbrev pub entry_takes : History → Entry → List EntryTake
entry_takes H e =
    map (λ (place, take). record {
      number = e.number;
      place = place;
      effective = e.effective;
      take = take;
    })
    (enumerate_from 1 (takes_by H e.effective e.stamped.command))

-- The takes of all entries, oldest first.
unfoldable pub takes_of : History → List EntryTake
takes_of [] = []
takes_of (e ∷ H) = takes_of H ++ entry_takes H e

-- ---- placements

-- The take as a placement, if its piece was placed.
abbrev pub placement_of : EntryTake → Option Placement
placement_of t = placed t.take.purpose
  where
    placed : Purpose → Option Placement
    placed (Placed board designator machine slot) = Some (record {
      number = t.number;
      place = t.place;
      board = board;
      designator = designator;
      part = t.take.part;
      lot = t.take.lot;
      reel = t.take.reel;
      machine = machine;
      slot = slot;
      effective = t.effective;
      overdue = t.take.overdue;
    })
    placed _ = None

-- The placed pieces, in order of entry and place.
abbrev pub placements_of : History → List Placement
placements_of H = filter_map placement_of (takes_of H)

-- The placements from reels whose floor life had expired.
abbrev pub overdue_of : History → List Placement
overdue_of H = filter (λ p. p.overdue) (placements_of H)

-- ---- lots and boards

-- The names in byte order, without duplicates.
abbrev pub set_of : List Name → List Name
set_of [] = []
set_of (x ∷ xs) = insert_key by_name (set_of xs) x

-- The lots with a piece on the board.
abbrev pub lots_of : History → Name → List Name
lots_of H board = set_of (map (λ p. p.lot) (filter (λ p. same p.board board) (placements_of H)))

-- The boards with a piece from the lot.
abbrev pub boards_of : History → Name → List Name
boards_of H lot = set_of (map (λ p. p.board) (filter (λ p. same p.lot lot) (placements_of H)))

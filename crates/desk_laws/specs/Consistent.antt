-- The guarantees about the history of accepted commands.
use Rattle.std.specs.Prelude.{◌≡◌, ◌+◌, ◌↔◌, All, Contains}
use Rattle.std.specs.List.{IsDistinct}
use Rattle.desk_types.specs.History.{History}
use Rattle.desk_types.specs.Id.{Name, same}
use Rattle.desk_types.specs.Pieces.{left_of, received_of, placed_of, scrapped_of, live_on}
use Rattle.desk_types.specs.Placements.{placements_of, lots_of, boards_of}
use Rattle.desk_laws.specs.Verified.{IsRightlyPlaced}

-- Each reel's received pieces are placed, scrapped or remaining. A reel is live on at most one
-- slot, and only once there. Each placed piece came from the first reel of its slot with a piece
-- left, and that reel had been verified for the slot. Board and lot traces agree.
pub record IsConsistent (H : History) : Type 0 where
  pub balance : (reel : Name)
      → received_of H reel ≡ placed_of H reel + scrapped_of H reel + left_of H reel
  pub one_slot : (m s machine slot reel : Name) → Contains (live_on H m s) reel
      → Contains (live_on H machine slot) reel → (m ≡ machine) × (s ≡ slot)
  pub once : (machine slot : Name) → IsDistinct same (live_on H machine slot)
  pub rightly_placed : All (IsRightlyPlaced H) (placements_of H)
  pub converse : (board lot : Name)
      → Contains (lots_of H board) lot ↔ Contains (boards_of H lot) board

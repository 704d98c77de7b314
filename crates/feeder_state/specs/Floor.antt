-- The shop floor of a history, in addition to the rows.
use Rattle.std.specs.Prelude.{◌≡◌, true}
use Rattle.desk_types.specs.Id.{Name}
use Rattle.desk_types.specs.History.{History}
use Rattle.desk_types.specs.Pieces.{live_on}
use Rattle.desk_types.specs.View.{part_of}
use Rattle.feeder_state.specs.Tape.{tape_at}
use Rattle.feeder_state.specs.declared.floor.Floor.{Floor}
use Rattle.feeder_state.specs.Resting.{rests}
use Rattle.feeder_state.specs.Sets.{is_name_at}

-- Each tape holds the live reels of its slot, and each reel at rest is among those of its part that may be.
pub record IsFloor (H : History) (floor : Floor) : Type 0 where
  pub tapes : (machine slot : Name) → tape_at floor.tapes machine slot ≡ live_on H machine slot
  pub resting : (reel : Name) → rests H reel ≡ true
      → is_name_at floor.resting (part_of H reel) reel ≡ true

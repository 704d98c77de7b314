-- The shop floor before the first entry.
use Rattle.desk_types.proofs.Common.{[], ◌≡◌, Bool, left_of, live_on, Name, refl, tape_of, true}
use Rattle.feeder_state.specs.Resting.{rests}

pub live_on-none : (machine slot : Name) → [] ≡ live_on [] machine slot
unfolding live_on tape_of
live_on-none machine slot = refl

pub none-rests : (reel : Name) (b : Bool) → rests [] reel ≡ true → b ≡ true
unfolding left_of
none-rests reel b rest = cc

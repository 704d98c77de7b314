-- Why the laws of the facts hold for a searched history.
use Rattle.std.specs.Prelude.{◌≡◌, nat_lt, refl}
use Rattle.std.specs.List.{filter}
use Rattle.desk_types.specs.Id.{Name}
use Rattle.desk_types.specs.History.{History}
use Rattle.desk_types.specs.Pieces.{left_of, live_on}
use Rattle.desk_types.specs.Tape.{tape_of}

pub searched_live : (found H : History) (machine slot : Name) → H ≡ found
    → filter (λ reel. nat_lt 0 (left_of H reel)) (tape_of found machine slot)
    ≡ live_on H machine slot
searched_live found H machine slot is = rw is (unfold live_on in refl)

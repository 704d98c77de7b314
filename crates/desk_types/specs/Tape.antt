-- The tape of a slot: the loaded reel and those spliced behind it.
use Rattle.std.specs.Prelude.{◌&&◌, List, [], ◌∷◌, ◌++◌, if◌then◌else◌}
use Rattle.desk_types.specs.declared.command.Command.{Command}
use Rattle.desk_types.specs.declared.command.Command.TheVariants.{MaterialsLoaded, MaterialsSpliced, MaterialsUnloaded}
use Rattle.desk_types.specs.Id.{Name, same}
use Rattle.desk_types.specs.History.{History}

-- The tape with the reel spliced to its end; an empty slot stays empty.
abbrev pub tape_with : List Name → Name → List Name
tape_with [] reel = []
tape_with (r ∷ rs) reel = (r ∷ rs) ++ reel ∷ []

-- The slot's tape after the command.
abbrev pub tape_after : Name → Name → Command → List Name → List Name
tape_after machine slot (MaterialsLoaded m s reel) reels = if same m machine && same s slot
    then reel ∷ [] else reels
tape_after machine slot (MaterialsSpliced m s reel) reels = if same m machine && same s slot
    then tape_with reels reel else reels
tape_after machine slot (MaterialsUnloaded m s) reels =
    if same m machine && same s slot then [] else reels
tape_after machine slot _ reels = reels

-- The reel of the slot's last load and those spliced since, including spent ones; none after an
-- unload.
unfoldable pub tape_of : History → Name → Name → List Name
tape_of [] machine slot = []
tape_of (e ∷ H) machine slot = tape_after machine slot e.stamped.command (tape_of H machine slot)

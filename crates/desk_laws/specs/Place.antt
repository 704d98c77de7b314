-- The slot of a reel, and the effect of a command on mounted reels. The proofs use these
-- definitions; the rules don't.
use Rattle.std.specs.Prelude.{Bool, false, not, ◌&&◌, Option, Some, None, [], ◌∷◌, if◌then◌else◌}
use Rattle.desk_types.specs.declared.command.Command.{Command}
use Rattle.desk_types.specs.declared.command.Command.TheVariants.{ReelReceived, MaterialsLoaded, MaterialsSpliced, MaterialsUnloaded, MaterialsInstalled, MaterialsScrapped, CountsTaken}
use Rattle.desk_types.specs.Id.{Name, same}
use Rattle.desk_types.specs.History.{History}

-- Whether the place is this slot.
abbrev pub is_at : Name → Name → Option (Name × Name) → Bool
is_at machine slot None = false
is_at machine slot (Some p) = same p.0 machine && same p.1 slot

-- The reel's place after a command: a load or splice puts it there; a load or unload of its slot
-- removes it.
abbrev pub place_after : Name → Command → Option (Name × Name) → Option (Name × Name)
place_after reel (MaterialsLoaded m s r) place = if same r reel then Some (m, s)
    else (if is_at m s place then None else place)
place_after reel (MaterialsSpliced m s r) place = if same r reel then Some (m, s) else place
place_after reel (MaterialsUnloaded m s) place = if is_at m s place then None else place
place_after reel _ place = place

-- The slot where the reel was last loaded or spliced, if it is still there.
unfoldable pub place_of : History → Name → Option (Name × Name)
place_of [] reel = None
place_of (e ∷ H) reel = place_after reel e.stamped.command (place_of H reel)

-- Whether the reel is mounted after a command, given whether it then has pieces left and where it
-- was live.
abbrev pub mounted_after : Bool → (Name → Name → Bool) → Name → Command → Bool → Bool
mounted_after some live reel (ReelReceived r part lot moisture quantity) mounted =
    if same r reel then false else mounted
mounted_after some live reel (MaterialsLoaded m s r) mounted = if same r reel then some else mounted
mounted_after some live reel (MaterialsSpliced m s r) mounted =
    if same r reel then some else mounted
mounted_after some live reel (MaterialsUnloaded m s) mounted = mounted && not (live m s)
mounted_after some live reel (MaterialsInstalled m board designators) mounted = mounted && some
mounted_after some live reel (MaterialsScrapped m s quantity) mounted = mounted && some
mounted_after some live reel (CountsTaken counts) mounted = mounted && some
mounted_after some live reel command mounted = mounted

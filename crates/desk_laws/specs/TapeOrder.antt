-- The commands that start or end a tape.
use Rattle.std.specs.Prelude.{Bool, false, ◌&&◌}
use Rattle.desk_types.specs.declared.command.Command.{Command}
use Rattle.desk_types.specs.declared.command.Command.TheVariants.{MaterialsLoaded, MaterialsUnloaded}
use Rattle.desk_types.specs.Id.{Name, same}

-- Whether the command loads or unloads the slot.
abbrev pub restarts : Name → Name → Command → Bool
restarts machine slot (MaterialsLoaded m s reel) = same m machine && same s slot
restarts machine slot (MaterialsUnloaded m s) = same m machine && same s slot
restarts machine slot _ = false

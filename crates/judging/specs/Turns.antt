-- The turns of free reels: remaining floor life with the reel's name.
use Rattle.std.specs.Prelude.{Option, Some, None, if◌then◌else◌}
use Rattle.std.specs.Option.{option_and_then, option_map}
use Rattle.std.specs.Ordering.{ordering_then}
use Rattle.std.specs.declared.cmp.Ordering.{Ordering}
use Rattle.desk_types.specs.declared.command.Command.{Command}
use Rattle.desk_types.specs.declared.view.Left.{Left}
use Rattle.desk_types.specs.Id.{Name, by_name}
use Rattle.desk_types.specs.History.{History}
use Rattle.desk_types.specs.View.{life_left}
use Rattle.desk_types.specs.Free.{received_by, is_free, by_left}

abbrev pub turn_of : History → Name → Left × Name
turn_of H reel = (life_left H reel, reel)

-- The order of turns: by remaining floor life, then by name.
abbrev pub by_life : Left × Name → Left × Name → Ordering
by_life a b = ordering_then (by_left a.0 b.0) (by_name a.1 b.1)

-- The reel if it is free for the part.
abbrev pub if_free : History → Name → Name → Option Name
if_free H part reel = if is_free H part reel then Some reel else None

-- The turn of the reel that the command receives, if it is free for the part.
abbrev pub turn_by : History → Name → Command → Option (Left × Name)
turn_by H part command =
    option_map (turn_of H) (option_and_then (if_free H part) (received_by command))

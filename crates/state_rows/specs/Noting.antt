-- The additions to the indexes from one entry.
use Rattle.std.specs.Prelude.{ℕ, Bool, List, [], map, if◌then◌else◌}
use Rattle.std.specs.List.{filter, filter_map, enumerate_from}
use Rattle.desk_types.specs.declared.command.Command.{Command}
use Rattle.desk_types.specs.declared.command.Command.TheVariants.{MaterialsInstalled}
use Rattle.desk_types.specs.declared.placement.Placement.{Placement}
use Rattle.desk_types.specs.declared.take.Take.{Take}
use Rattle.desk_types.specs.Id.{Name, same}
use Rattle.desk_types.specs.Placements.{placement_of}
use Rattle.state_rows.specs.declared.lists.Install.{Install}
use Rattle.state_rows.specs.Lists.{Key, keys_of_install}

-- The keys of an entry's placements that pass a test, with its takes numbered from this place.
abbrev pub keys_in : (Placement → Bool) → ℕ → ℕ → ℕ → List Take → List Key
keys_in test number minute place takes =
    map (λ (p : Placement). (p.number, p.place)) (
    filter test (
    filter_map placement_of (
    map (λ (place, take). record {
      number = number;
      place = place;
      effective = minute;
      take = take;
    }) (enumerate_from place takes))))

-- The keys of the install, if the command is one on the board.
abbrev pub install_keys : Name → Command → Install → List Key
install_keys board (MaterialsInstalled machine b designators) install = if same b board
    then keys_of_install install else []
install_keys board command install = []

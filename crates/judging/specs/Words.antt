-- The commands that take no pieces.
use Rattle.std.specs.Prelude.{⊤}
use Rattle.desk_types.specs.declared.command.Command.{Command}
use Rattle.desk_types.specs.declared.command.Command.TheVariants.{MaterialsInstalled, MaterialsScrapped, CountsTaken}

-- All commands except installs, scraps and counts.
abbrev pub TakesNone : Command → Type 0
TakesNone (MaterialsInstalled machine board designators) = ⊥
TakesNone (MaterialsScrapped machine slot quantity) = ⊥
TakesNone (CountsTaken counts) = ⊥
TakesNone _ = ⊤

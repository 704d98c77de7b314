-- The command that bakes a reel.
use Rattle.std.specs.Prelude.{Bool, true, false}
use Rattle.desk_types.specs.declared.command.Command.{Command}
use Rattle.desk_types.specs.declared.command.Command.TheVariants.{ReelBaked}

abbrev pub is_bake : Command → Bool
is_bake (ReelBaked reel) = true
is_bake _ = false

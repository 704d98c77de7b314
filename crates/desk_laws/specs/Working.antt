-- The effect of a command on boards in work. The proofs use this definition; the rules don't.
use Rattle.std.specs.Prelude.{Bool, true, false, if◌then◌else◌}
use Rattle.desk_types.specs.declared.command.Command.{Command}
use Rattle.desk_types.specs.declared.command.Command.TheVariants.{WorkStarted, WorkCompleted}
use Rattle.desk_types.specs.Id.{Name, same}

-- Whether the board is in work after a command: a start puts it in work, its completion ends that.
abbrev pub in_work_after : Name → Command → Bool → Bool
in_work_after board (WorkStarted machine b) before = if same b board then true else before
in_work_after board (WorkCompleted machine b) before = if same b board then false else before
in_work_after board _ before = before

-- Repeated messages.
use Rattle.std.specs.Prelude.{Bool}
use Rattle.desk_types.specs.contracts.command.StampedPartialEq.TheImpl.{ghosts as derived}
use Rattle.desk_types.specs.declared.command.Stamped.{Stamped}

-- Whether two messages are the same: `==` of `Stamped` compares UniqueID, source, minute and
-- command.
abbrev pub is_same : Stamped → Stamped → Bool
is_same first again = derived.eq first again

use Rattle.desk_types.proofs.Common.{refl}
use Rattle.cfx_profile.specs.Bodies.{command_in}
use Rattle.cfx_profile.proofs.bodies.command_in.Goals as goal

pub returns-in-ClockSet : goal.returns-in-ClockSet
unfolding command_in
returns-in-ClockSet c = rw c.in-ClockSet.is refl

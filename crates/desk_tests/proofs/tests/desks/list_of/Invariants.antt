use Rattle.desk_tests.specs.Beside.{AreOfOneList}
use Rattle.feeder_state.specs.State.{Represents}
use Rattle.desk_tests.proofs.tests.desks.list_of.Given as goal

-- The desk and the rows belong to the same history.
abbrev pub invariant-loop-message : goal.invariant-loop-message
invariant-loop-message l = AreOfOneList Represents l.desk l.rows l.number

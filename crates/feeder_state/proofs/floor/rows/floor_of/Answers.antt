use Rattle.feeder_state.proofs.floor.rows.floor_of.Goals as goal

pub returns : goal.returns
returns c = λ H rows. record { tapes = c.in_ok-tapes.ensures H rows; resting = c.in_ok-resting.ensures H rows }

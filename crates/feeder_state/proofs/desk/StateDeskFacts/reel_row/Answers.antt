use Rattle.desk_types.proofs.Common.{◌∙◌}
use Rattle.feeder_state.proofs.{AcceptedChanges.state-rows, RowReels.row-at}
use Rattle.feeder_state.proofs.desk.StateDeskFacts.reel_row.Goals as goal

pub returns : goal.returns
returns c = λ H state.
    let desk = c.args.self.now in
    row-at H desk.rows (state-rows H desk state) c.args.reel.now c.copied.result (c.copied.ensures ∙ c.reel.ensures)

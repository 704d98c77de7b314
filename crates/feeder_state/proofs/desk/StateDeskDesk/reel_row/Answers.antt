use Rattle.desk_types.proofs.Common.{◌∙◌}
use Rattle.feeder_state.proofs.{AcceptedChanges.state-rows, RowReels.reels-row}
use Rattle.feeder_state.proofs.desk.StateDeskDesk.reel_row.Goals as goal

pub returns : goal.returns
returns c = λ B stands.
    let desk = c.args.self.now in
    c.copied.ensures ∙ c.reel.ensures ∙ reels-row B.history desk.rows (state-rows B.history desk stands.state) c.args.reel.now

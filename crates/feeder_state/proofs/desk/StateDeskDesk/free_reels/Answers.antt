use Rattle.desk_types.proofs.Common.{◌∙◌}
use Rattle.feeder_state.proofs.AcceptedChanges.{state-alternate, state-told}
use Rattle.feeder_state.proofs.desk.StateDeskDesk.free_reels.Goals as goal

pub returns : goal.returns
returns c = λ B stands.
    let desk = c.args.self.now in
    let H = B.history in
    let state = stands.state in
    c.free_reels.ensures H (state-told H desk state) state.floor state.setup (λ p q. c.alternate_set.ensures p q ∙ state-alternate H desk p q state)

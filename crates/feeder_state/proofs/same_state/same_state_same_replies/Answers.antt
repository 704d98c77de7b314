use Rattle.desk_types.proofs.Common.{◌∙◌, ap, replies_to, sym}
use Rattle.feeder_state.proofs.SameStates.{state-replies}
use Rattle.feeder_state.proofs.same_state.same_state_same_replies.Goals as goal

pub returns : goal.returns
returns c = λ A B messages of_A of_B all.
    ap (λ r. replies_to r A.history messages) (sym of_A.rules)
    ∙ state-replies A.history B.history c.args.desk.now messages all of_A.state of_B.state
    ∙ ap (λ r. replies_to r B.history messages) of_B.rules

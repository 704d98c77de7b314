use Rattle.desk_types.proofs.Common.{[], ◌∷◌, on_err_weaker}
use Rattle.desk_answers.proofs.SentFronts.{front_after}
use Rattle.desk_answers.proofs.sending.send_line.Goals as goal

pub returns-clause-front : goal.returns-clause-front
returns-clause-front g c = on_err_weaker c.send-3.result (λ h. front_after _ _ _ c.args.text.now (10 ∷ []) c.in_ok-send.ensures.ok h) c.send-3.ensures.front

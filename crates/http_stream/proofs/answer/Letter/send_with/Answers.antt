use Rattle.desk_types.proofs.Common.{on_err_weaker, take}
use Rattle.desk_answers.proofs.SentFronts.{front_after}
use Rattle.http_stream.proofs.answer.Letter.send_with.Goals as goal

pub returns-clause-front : goal.returns-clause-front
returns-clause-front g c = on_err_weaker c.send-3.result (λ h. front_after _ _ _ (take c.args.self.now.end c.args.self.now.block) c.args.body.now c.in_ok-send.ensures.ok h) c.send-3.ensures.front

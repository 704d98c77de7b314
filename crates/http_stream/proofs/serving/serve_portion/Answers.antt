use Rattle.desk_types.proofs.Common.{[], ◌+◌, ◌∙◌, ◌∷◌, ◌≡◌, ap, Appends, Bool, cond, inner_of, subst}
use Rattle.http_stream.proofs.AnsweredPortions.{one_answered}
use Rattle.http_stream.specs.{Answers.answer_bytes, Answers.is_refused, Answers.reply_told, Answers.Told}
use Rattle.http_stream.specs.{Cut.is_last, Portions.portion_of, Stream.has_body, Stream.outcome}
use Rattle.http_stream.proofs.serving.serve_portion.Goals as goal

pub returns-clause-answers : goal.returns-clause-answers
returns-clause-answers g c = λ s stands trusts.
    let rule = g.A.Handler.rule in
    let p = portion_of c.args.block.now c.args.taken in
    let a = c.answer_portion-told.ensures.told s stands trusts in
    let mark = a.2.0 in
    let out = g.W.Write.contents (inner_of c.args.output.now) in
    let out' = g.W.Write.contents (inner_of c.send_answer.new.wire) in
    let told = c.answer_portion-told.result in
    let went = subst (λ (b : Bool). Appends out out' (answer_bytes b told.has_body (reply_told told.reply))) c.answer_portion-told.ensures.closes c.in_ok-send_answer.ensures.ok in
    let went = subst (λ (b : Bool). Appends out out' (answer_bytes (is_last p) b (reply_told told.reply))) c.answer_portion-told.ensures.has_body went in
    let went = subst (λ (t : Told). Appends out out' (answer_bytes (is_last p) (has_body p) t)) a.2.1 went in
    let k = c.args.served.now in
    let counts : c.is_refused.result ≡ is_refused (outcome rule mark s p).told.status = c.is_refused.ensures ∙ ap is_refused c.status.ensures ∙ ap (λ (t : Told). is_refused t.status) a.2.1 in
    let counted = subst (λ (b : Bool). c.count.new.self.refused ≡ cond b (k.refused + 1) k.refused) counts c.count.ensures.refused in
    (a.0, a.1, (mark ∷ [], one_answered rule mark s a.0 p out out' k c.count.new.self a.2.2 went c.count.ensures.answered counted))

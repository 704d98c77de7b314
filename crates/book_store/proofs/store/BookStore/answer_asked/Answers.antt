use Rattle.desk_types.proofs.Common.{err_from_is_err_and, Ok, subst}
use Rattle.cfx_profile.specs.declared.message.Said.TheVariants.{Asked}
use Rattle.line_schema.specs.Verdict.{IsVerdict}
use Rattle.book_store.proofs.Answering.{refusal_answered}
use Rattle.book_store.proofs.Ending.{ends_as}
use Rattle.book_store.proofs.Loading.{ends_later, failed_later}
use Rattle.book_store.specs.Answered.{AnswersSaid}
use Rattle.book_store.proofs.store.BookStore.answer_asked.Goals as goal

pub returns-in_err-answer-clause-answered : goal.returns-in_err-answer-clause-answered
returns-in_err-answer-clause-answered g c said L was clean own =
    let failed = err_from_is_err_and c.from_residual.result c.from_residual.ensures.1 in
    failed_later g.S.Store g.D.Desk.Stands c.args.self.now c.judge.new.self c.judge.ensures.stands
    c.judge.ensures.survives L was clean own _ failed.0 failed.1 _

pub returns-in-Answered-clause-answered : goal.returns-in-Answered-clause-answered
returns-in-Answered-clause-answered g c said L was clean own =
    let s = c.args.stamped.now in
    let told = c.args.told.now in
    let early = c.answer_final.ensures.clean clean in
    let verdict = subst (IsVerdict L.kept s) c.in-Answered.is (c.in_ok-answer.ensures.verdict L was early own) in
    ends_later g.S.Store g.D.Desk.Stands c.args.self.now c.judge.new.self c.judge.ensures.stands
    c.judge.ensures.survives L was early own _ c.answer_final.result _
    (λ stands. ends_as g.S.Store g.D.Desk.Stands c.judge.new.self _ L c.answer_final.result _
    (AnswersSaid L told (Ok (Asked s))) (λ text N keeps. refusal_answered L told s c.in-Answered.answer text N verdict.0
    verdict.1 keeps) (c.answer_final.ensures.answered said L stands clean own))

pub returns-in-Accepts-clause-answered : goal.returns-in-Accepts-clause-answered
returns-in-Accepts-clause-answered g c said L was clean own =
    let s = c.args.stamped.now in
    let early = c.accept_heard.ensures.clean clean in
    let verdict = subst (IsVerdict L.kept s) c.in-Accepts.is (c.in_ok-answer.ensures.verdict L was early own) in
    ends_later g.S.Store g.D.Desk.Stands c.args.self.now c.judge.new.self c.judge.ensures.stands
    c.judge.ensures.survives L was early own _ c.accept_heard.result _
    (λ stands. c.accept_heard.ensures.accepted L stands clean own s verdict)

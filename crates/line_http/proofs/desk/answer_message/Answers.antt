use Rattle.desk_types.proofs.Common.{◌∙◌, ap, err_from_is_err_and, Ok}
use Rattle.book_store.specs.Answered.{AnswersMessage}
use Rattle.gateway_http.specs.Requests.{told}
use Rattle.gateway_http.specs.declared.asked.Asked.TheVariants.{Message}
use Rattle.line_http.proofs.Lines.{ends_gives, failed, heard_line, still}
use Rattle.line_http.specs.Desk.{desk_asked}
use Rattle.line_http.proofs.desk.answer_message.Goals as goal

pub returns-in_err-answer-clause-gives : goal.returns-in_err-answer-clause-gives
returns-in_err-answer-clause-gives g c =
    let err = err_from_is_err_and c.from_residual.result c.from_residual.ensures.1 in
    failed g.S.Store g.D.Desk.Stands c.args.store.now c.answer.new.self _ err.0 _ err.1
    (λ line was clean. still g.S.Store g.D.Desk.Stands c.args.store.now c.answer.new.self line was
    (c.in_err-answer.ensures.answered was.lists was.stands clean was.own).err)

pub returns-clause-gives : goal.returns-clause-gives
returns-clause-gives g c line was clean =
    ends_gives g.S.Store g.D.Desk.Stands c.args.store.now c.answer.new.self line was
    (λ l. desk_asked l c.args.body.now (Ok Message)) c.in_ok-answer.answer
    (AnswersMessage was.lists c.args.body.now) c.answer_response.result
    (λ M is. let lists = heard_line was.lists M c.args.body.now c.in_ok-answer.answer is in
    (c.answer_response.ensures ∙ ap told is.0, lists.0, lists.1))
    (c.in_ok-answer.ensures.answered was.lists was.stands clean was.own)

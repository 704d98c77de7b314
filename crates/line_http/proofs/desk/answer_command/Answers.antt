use Rattle.desk_types.proofs.Common.{◌∙◌, ap, err_from_is_err_and, Ok}
use Rattle.book_store.specs.Answered.{AnswersCommand}
use Rattle.gateway_http.specs.Requests.{import_outcome, told}
use Rattle.line_http.proofs.Lines.{commanded_line, ends_gives, failed, still}
use Rattle.line_http.specs.Desk.{with_outcome}
use Rattle.line_http.proofs.desk.answer_command.Goals as goal

pub returns-in_err-answer-clause-gives : goal.returns-in_err-answer-clause-gives
returns-in_err-answer-clause-gives g c =
    let err = err_from_is_err_and c.from_residual.result c.from_residual.ensures.1 in
    failed g.S.Store g.D.Desk.Stands c.args.store.now c.command.new.self _ err.0 _ err.1
    (λ line was clean. still g.S.Store g.D.Desk.Stands c.args.store.now c.command.new.self line was
    (c.in_err-answer.ensures.answered was.lists was.stands clean was.own).err)

pub returns-clause-gives : goal.returns-clause-gives
returns-clause-gives g c line was clean =
    ends_gives g.S.Store g.D.Desk.Stands c.args.store.now c.command.new.self line was
    (λ l. with_outcome l (import_outcome l.desk (Ok c.args.stamped.now))) c.in_ok-answer.answer
    (AnswersCommand was.lists c.args.stamped.now) c.answer_response.result
    (λ M is. let lists = commanded_line was.lists M c.args.stamped.now c.in_ok-answer.answer is in
    (c.answer_response.ensures ∙ ap told is.0, lists.0, lists.1))
    (c.in_ok-answer.ensures.answered was.lists was.stands clean was.own)

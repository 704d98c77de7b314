use Rattle.desk_types.proofs.Common.{◌∙◌, ap, err_from_is_err_and, Ok, sym}
use Rattle.gateway_http.specs.Requests.{csv}
use Rattle.line_answers.specs.Book.{book_text}
use Rattle.line_http.proofs.Lines.{failed, still, told_gives}
use Rattle.line_http.specs.Line.{Line}
use Rattle.line_http.proofs.answers.answer_book.Goals as goal

pub returns-in_err-text-clause-gives : goal.returns-in_err-text-clause-gives
returns-in_err-text-clause-gives g c =
    let told = err_from_is_err_and c.from_residual.result c.from_residual.ensures.1 in
    failed g.S.Store g.D.Desk.Stands c.args.store.now c.book.new.self _ told.0 _ told.1
    (λ line was clean. still g.S.Store g.D.Desk.Stands c.args.store.now c.book.new.self line was
    (c.book.ensures.stands was.lists was.stands clean was.own))

pub returns-clause-gives : goal.returns-clause-gives
returns-clause-gives g c line was clean =
    let text = c.in_ok-text.ensures.text was.lists was.stands clean was.own
    ∙ sym (ap (λ (l : Line). book_text l.desk.history l.notes c.args.wanted l.rows) was.same) in
    told_gives g.S.Store g.D.Desk.Stands c.book.new.self line
    (still g.S.Store g.D.Desk.Stands c.args.store.now c.book.new.self line was
    (c.book.ensures.stands was.lists was.stands clean was.own)) (Ok c.csv.result) (csv c.in_ok-text.text) _
    (ap csv text) c.csv.ensures

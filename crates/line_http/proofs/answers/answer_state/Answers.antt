use Rattle.desk_types.proofs.Common.{◌∙◌, ap, err_from_is_err_and, sym}
use Rattle.line_answers.specs.State.{state_text}
use Rattle.line_http.proofs.Lines.{failed, still, told_gives}
use Rattle.line_http.specs.Line.{Line}
use Rattle.line_http.specs.Rule.{state_told}
use Rattle.line_http.proofs.answers.answer_state.Goals as goal

pub returns-in_err-found-clause-gives : goal.returns-in_err-found-clause-gives
returns-in_err-found-clause-gives g c =
    let told = err_from_is_err_and c.from_residual.result c.from_residual.ensures.1 in
    failed g.S.Store g.D.Desk.Stands c.args.store.now c.state.new.self _ told.0 _ told.1
    (λ line was clean. still g.S.Store g.D.Desk.Stands c.args.store.now c.state.new.self line was
    (c.state.ensures.stands was.lists was.stands clean was.own))

pub returns-clause-gives : goal.returns-clause-gives
returns-clause-gives g c line was clean =
    let text = c.in_ok-found.ensures.text was.lists was.stands clean was.own
    ∙ sym (ap (λ (l : Line). state_text l.desk.history l.notes c.args.machine.now) was.same) in
    told_gives g.S.Store g.D.Desk.Stands c.state.new.self line
    (still g.S.Store g.D.Desk.Stands c.args.store.now c.state.new.self line was
    (c.state.ensures.stands was.lists was.stands clean was.own)) c.tell_state.result
    (state_told c.in_ok-found.found) _ (ap state_told text) c.tell_state.ensures

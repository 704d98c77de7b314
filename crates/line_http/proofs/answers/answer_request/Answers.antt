use Rattle.line_http.proofs.Lines.{gives_later}
use Rattle.line_http.proofs.answers.answer_request.Goals as goal

pub returns-clause-gives : goal.returns-clause-gives
returns-clause-gives g c =
    gives_later g.S.Store g.D.Desk.Stands c.args.store.now c.ready.new.self c.answer_ready.new.store
    c.answer_ready.result _ c.ready.ensures.stands c.answer_ready.ensures.clean c.answer_ready.ensures.gives

use Rattle.desk_types.proofs.Common.{rules}
use Rattle.line_http.proofs.Lines.{come_back}
use Rattle.line_http.proofs.handler.serve.Goals as goal

pub returns-clause-answers : goal.returns-clause-answers
returns-clause-answers g c = come_back g.S.Store g.D.Desk.Stands c.args.store.now c.serve-ended.new.self.store.now
    c.store-1.given.0 _ (search rules) c.serve-ended.ensures.answers

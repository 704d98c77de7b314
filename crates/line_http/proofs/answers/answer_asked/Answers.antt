use Rattle.desk_types.proofs.Common.{Ok, subst, sym}
use Rattle.line_http.specs.Gives.{GivesOne}
use Rattle.line_http.specs.Rule.{asked_outcome}
use Rattle.line_http.specs.declared.asked.Asked.{Asked}
use Rattle.line_http.proofs.answers.answer_asked.Goals as goal

pub returns-in-Book-clause-gives : goal.returns-in-Book-clause-gives
returns-in-Book-clause-gives g c line was clean = subst
    (λ (asked : Asked). GivesOne g.S.Store g.D.Desk.Stands c.answer_book.new.store c.answer_book.result line
    (asked_outcome line c.args.body.now (Ok asked))) (sym c.in-Book.is) (c.answer_book.ensures.gives line was clean)

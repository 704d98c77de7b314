use Rattle.desk_types.proofs.Common.{◌∙◌, ap, Ok, sym}
use Rattle.line_schema.proofs.StandsAfter.{first_as}
use Rattle.book_store.proofs.Answering.{command_accepted}
use Rattle.book_store.proofs.Ending.{ends_by, ends_err, ends_same}
use Rattle.book_store.specs.Answered.{AnswersCommand, command_told}
use Rattle.book_store.proofs.store.BookStore.accept_alone.Goals as goal

pub returns-in-Ok-clause-accepted : goal.returns-in-Ok-clause-accepted
returns-in-Ok-clause-accepted g c L was clean own s is =
    let old = c.args.self.now in
    let answer = c.in-Ok.answer in
    let first = first_as L.kept s c.args.change is.is is.first in
    let ends = c.in-Ok.ensures.accepted L was clean own first in
    let same = c.accepted_told.ensures _ _ ends.ok.1.answer ∙ ap Ok (sym (ap (command_told s) ends.ok.1.answer)) in
    ends_same g.S.Store g.D.Desk.Stands old _ L c.accepted_told.result _ same _
    (ends_by g.S.Store g.D.Desk.Stands old _ L (command_told s) answer _ (AnswersCommand L s)
    (λ x M it. command_accepted L s c.args.change old.reading x M is it) ends)

pub returns-in-Err-clause-accepted : goal.returns-in-Err-clause-accepted
returns-in-Err-clause-accepted g c L was clean own s is =
    let old = c.args.self.now in
    let first = first_as L.kept s c.args.change is.is is.first in
    ends_err g.S.Store g.D.Desk.Stands old _ L _ _ _ (AnswersCommand L s)
    (λ x M it. (command_told s x, command_accepted L s c.args.change old.reading x M is it))
    (c.in-Err.ensures.accepted L was clean own first)

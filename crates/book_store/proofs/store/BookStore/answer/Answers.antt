use Rattle.desk_types.proofs.Common.{◌∙◌, ◌≡◌, ◌≢◌, ap, IsUtf8, Ok, rules, subst}
use Rattle.cfx_profile.specs.Answer.{IsNamedByText}
use Rattle.cfx_profile.specs.declared.fault.MessageFault.TheVariants.{NoMemory}
use Rattle.cfx_profile.specs.declared.message.Said.TheVariants as said
use Rattle.book_store.proofs.Answering.{ignored_answered, said_answered}
use Rattle.book_store.proofs.Ending.{ends_as, ends_still}
use Rattle.book_store.specs.Answered.{AnswersMessage}
use Rattle.book_store.proofs.store.BookStore.answer.Goals as goal

pub returns-in_ok-ignored_told-in-Ok-Ignored-clause-answered :
    goal.returns-in_ok-ignored_told-in-Ok-Ignored-clause-answered
returns-in_ok-ignored_told-in-Ok-Ignored-clause-answered g c L was clean own =
    let told = c.args.told.now in
    let name = c.in-Ok-Ignored.name in
    let same : c.in-Ok-Ignored.field-0 ≡ said.Ignored name = search rules in
    let is = c.in-Ok-Ignored.ensures.said ∙ ap Ok same in
    let plain : IsUtf8 name = subst IsNamedByText same c.in-Ok-Ignored.ensures.text in
    let text = c.in_ok-ignored_told-in-Ok-Ignored.ensures plain in
    ends_still g.S.Store g.D.Desk.Stands c.args.self.now c.args.self.now L _ (AnswersMessage L told)
    (λ trees may. may) was (said_answered L told _ _ _ L is (ignored_answered L told name _ text))

pub returns-in-Ok-Asked-clause-answered : goal.returns-in-Ok-Asked-clause-answered
returns-in-Ok-Asked-clause-answered g c L was clean own =
    let told = c.args.told.now in
    let same : c.in-Ok-Asked.field-0 ≡ said.Asked c.in-Ok-Asked.stamped = search rules in
    let is = c.in-Ok-Asked.ensures.said ∙ ap Ok same in
    ends_as g.S.Store g.D.Desk.Stands c.args.self.now _ L c.answer_asked.result _ (AnswersMessage L told)
    (λ text M it. said_answered L told _ _ text M is it) (c.answer_asked.ensures.answered is L was clean own)

pub returns-in-Err-clause-answered : goal.returns-in-Err-clause-answered
returns-in-Err-clause-answered g c L was clean own =
    let told = c.args.told.now in
    let other : c.in-Err.fault ≢ NoMemory = search rules in
    let is = c.in-Err.ensures.said other in
    ends_as g.S.Store g.D.Desk.Stands c.args.self.now _ L c.answer_fault.result _ (AnswersMessage L told)
    (λ text M it. said_answered L told _ _ text M is it) (c.answer_fault.ensures.answered L was clean own)

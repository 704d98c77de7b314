use Rattle.desk_types.proofs.Common.{◌∙◌, ◌≡◌, ap, length, Result, subst, sym}
use Rattle.line_answers.specs.declared.fault.LineFault.{LineFault}
use Rattle.line_book.specs.declared.note.Matter.{Matter}
use Rattle.line_http.proofs.Lines.{fault_gives}
use Rattle.line_http.specs.Gives.{GivesOne}
use Rattle.line_http.specs.Line.{Line}
use Rattle.line_http.specs.Rule.{body_said, said_outcome}
use Rattle.line_http.proofs.sayings.answer_saying.Goals as goal

pub returns-in-Ok-clause-gives : goal.returns-in-Ok-clause-gives
returns-in-Ok-clause-gives g c line was clean =
    let count : c.last_entry.result ≡ length line.notes = c.last_entry.ensures was.lists was.stands
    ∙ sym (ap (λ (l : Line). length l.notes) was.same) in
    let said = sym (ap (λ n. body_said c.args.noted n c.args.body.now) count) ∙ c.in-Ok.ensures in
    subst (λ (r : Result Matter LineFault). GivesOne g.S.Store g.D.Desk.Stands c.say.new.store c.say.result line
    (said_outcome line c.args.noted c.args.body.now r)) (sym said) (c.say.ensures.gives line was clean)

pub returns-in-Err-clause-gives : goal.returns-in-Err-clause-gives
returns-in-Err-clause-gives g c line was clean =
    let count : c.last_entry.result ≡ length line.notes = c.last_entry.ensures was.lists was.stands
    ∙ sym (ap (λ (l : Line). length l.notes) was.same) in
    fault_gives g.S.Store g.D.Desk.Stands c.args.store.now line was c.answer_body_fault.result c.in-Err.fault
    c.args.noted c.args.body.now _
    (λ other. sym (ap (λ n. body_said c.args.noted n c.args.body.now) count) ∙ c.in-Err.ensures other)
    c.answer_body_fault.ensures.told c.answer_body_fault.ensures.fault

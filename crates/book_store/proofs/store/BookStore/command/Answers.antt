use Rattle.desk_types.proofs.Common.{err_from_is_err_and, subst}
use Rattle.line_schema.specs.Verdict.{IsVerdict}
use Rattle.book_store.proofs.Answering.{still_answered}
use Rattle.book_store.proofs.Loading.{ends_later, failed_later, still_later}
use Rattle.book_store.proofs.store.BookStore.command.Goals as goal

pub returns-in_err-answer-clause-answered : goal.returns-in_err-answer-clause-answered
returns-in_err-answer-clause-answered g c L was clean own =
    let failed = err_from_is_err_and c.from_residual.result c.from_residual.ensures.1 in
    failed_later g.S.Store g.D.Desk.Stands c.args.self.now c.judge.new.self c.judge.ensures.stands
    c.judge.ensures.survives L was clean own _ failed.0 failed.1 _

pub returns-in_err-command_told-in-Answered-clause-answered :
    goal.returns-in_err-command_told-in-Answered-clause-answered
returns-in_err-command_told-in-Answered-clause-answered g c L was clean own =
    let failed = err_from_is_err_and c.from_residual-in_err-command_told-in-Answered.result
    c.from_residual-in_err-command_told-in-Answered.ensures.1 in
    failed_later g.S.Store g.D.Desk.Stands c.args.self.now c.judge.new.self c.judge.ensures.stands
    c.judge.ensures.survives L was clean own _ failed.0 failed.1 _

pub returns-in_ok-command_told-in-Answered-clause-answered : goal.returns-in_ok-command_told-in-Answered-clause-answered
returns-in_ok-command_told-in-Answered-clause-answered g c L was clean own =
    let s = c.args.stamped.now in
    let verdict = subst (IsVerdict L.kept s) c.in-Answered.is (c.in_ok-answer.ensures.verdict L was clean own) in
    still_later g.S.Store g.D.Desk.Stands c.args.self.now c.judge.new.self c.judge.ensures.stands
    c.judge.ensures.survives L was clean own _ _
    (λ stands. still_answered L s c.in-Answered.answer _ verdict.0 verdict.1 c.in_ok-command_told-in-Answered.ensures)

pub returns-in-Accepts-clause-answered : goal.returns-in-Accepts-clause-answered
returns-in-Accepts-clause-answered g c L was clean own =
    let s = c.args.stamped.now in
    let early = c.accept_alone.ensures.clean clean in
    let verdict = subst (IsVerdict L.kept s) c.in-Accepts.is (c.in_ok-answer.ensures.verdict L was early own) in
    ends_later g.S.Store g.D.Desk.Stands c.args.self.now c.judge.new.self c.judge.ensures.stands
    c.judge.ensures.survives L was early own _ c.accept_alone.result _
    (λ stands. c.accept_alone.ensures.accepted L stands clean own s verdict)

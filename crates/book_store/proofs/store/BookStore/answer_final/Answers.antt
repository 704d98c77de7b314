use Rattle.desk_types.proofs.Common.{arith, err_from_is_err_and, subst}
use Rattle.line_entries.specs.declared.row.Sender.{Sender}
use Rattle.book_store.proofs.Answering.{refusal_kept}
use Rattle.book_store.proofs.Ending.{ends_err, ends_ok, ends_told}
use Rattle.book_store.proofs.Entering.{refusal_next}
use Rattle.book_store.proofs.Loading.{ends_later, failed_later}
use Rattle.book_store.specs.Answered.{command_told, KeepsRefusal}
use Rattle.book_store.specs.Lists.{Lists}
use Rattle.book_store.specs.Noted.{KeepsAny, sender_of}
use Rattle.book_store.proofs.store.BookStore.answer_final.Goals as goal

pub returns-in_err-entry-clause-answered : goal.returns-in_err-entry-clause-answered
returns-in_err-entry-clause-answered g c said L was clean own =
    let failed = err_from_is_err_and c.from_residual.result c.from_residual.ensures.1 in
    failed_later g.S.Store g.D.Desk.Stands c.args.self.now c.refusal_entry.new.self c.refusal_entry.ensures.stands
    c.refusal_entry.ensures.survives L was clean own _ failed.0 failed.1 _

pub returns-in_err-text-clause-answered : goal.returns-in_err-text-clause-answered
returns-in_err-text-clause-answered g c said L was clean own =
    let failed = err_from_is_err_and c.from_residual-in_err-text.result c.from_residual-in_err-text.ensures.1 in
    failed_later g.S.Store g.D.Desk.Stands c.args.self.now c.refusal_entry.new.self c.refusal_entry.ensures.stands
    c.refusal_entry.ensures.survives L was clean own _ failed.0 failed.1 _

pub returns-in_err-keep-clause-answered : goal.returns-in_err-keep-clause-answered
returns-in_err-keep-clause-answered g c said L was clean own =
    let s = c.args.stamped.now in
    let told = c.args.told.now in
    let answer = c.args.answer in
    let mid = c.refusal_entry.new.self in
    let early = c.keep.ensures.clean clean in
    let is = c.in_ok-entry.ensures.entry L was early own in
    let next = refusal_next L told s answer c.in_ok-entry.entry said is in
    let by_sender : (M : Lists) → KeepsAny L c.in_ok-entry.entry c.sender_of.result told M
    → KeepsAny L c.in_ok-entry.entry (sender_of s) told M = λ M keeps. subst
    (λ (k : Sender). KeepsAny L c.in_ok-entry.entry k told M) c.sender_of.ensures keeps in
    let failed = err_from_is_err_and c.from_residual-in_err-keep.result c.from_residual-in_err-keep.ensures.1 in
    ends_later g.S.Store g.D.Desk.Stands c.args.self.now mid c.refusal_entry.ensures.stands
    c.refusal_entry.ensures.survives L was early own _ _ _
    (λ stands. ends_told g.S.Store g.D.Desk.Stands mid _ L _ failed.0 failed.1 _
    (ends_err g.S.Store g.D.Desk.Stands mid _ L _ failed.0 _ (KeepsRefusal L told s answer)
    (λ x M keeps. (command_told s answer, refusal_kept L told s answer c.in_ok-entry.entry M is (by_sender M keeps)))
    (c.in_err-keep.ensures.kept L stands clean own next)))

pub returns-clause-answered : goal.returns-clause-answered
returns-clause-answered g c said L was clean own =
    let s = c.args.stamped.now in
    let told = c.args.told.now in
    let answer = c.args.answer in
    let mid = c.refusal_entry.new.self in
    let early = c.keep.ensures.clean clean in
    let is = c.in_ok-entry.ensures.entry L was early own in
    let next = refusal_next L told s answer c.in_ok-entry.entry said is in
    let by_sender : (M : Lists) → KeepsAny L c.in_ok-entry.entry c.sender_of.result told M
    → KeepsAny L c.in_ok-entry.entry (sender_of s) told M = λ M keeps. subst
    (λ (k : Sender). KeepsAny L c.in_ok-entry.entry k told M) c.sender_of.ensures keeps in
    ends_later g.S.Store g.D.Desk.Stands c.args.self.now mid c.refusal_entry.ensures.stands
    c.refusal_entry.ensures.survives L was early own _ _ _
    (λ stands. ends_ok g.S.Store g.D.Desk.Stands mid _ L _ _ _ (KeepsRefusal L told s answer)
    (λ x M keeps. (
      c.in_ok-text.ensures,
      (refusal_kept L told s answer c.in_ok-entry.entry M is (by_sender M keeps)).1,
    ))
    (c.in_ok-keep.ensures.kept L stands clean own next))

pub returns-clause-clean : goal.returns-clause-clean
returns-clause-clean g c clean = omega (arith, c.refusal_entry.ensures.survives.clean, c.keep.ensures.clean clean)

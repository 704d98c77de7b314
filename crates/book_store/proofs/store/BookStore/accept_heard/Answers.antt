use Rattle.desk_types.proofs.Common.{◌∙◌, ap, err_from_is_err_and, List, Ok, subst, sym, tape_of}
use Rattle.cfx_profile.specs.declared.message.Said.TheVariants.{Asked}
use Rattle.line_book.specs.declared.row.BookRow.{BookRow}
use Rattle.line_members.specs.Accepted.{accepted}
use Rattle.line_schema.proofs.StandsAfter.{first_as}
use Rattle.book_store.proofs.Answering.{heard_accepted}
use Rattle.book_store.proofs.Ending.{ends_by, ends_err, ends_same, failed_by}
use Rattle.book_store.specs.Answered.{AnswersSaid, command_told}
use Rattle.book_store.specs.Findings.{AreRowsOf}
use Rattle.book_store.specs.Noted.{place_in, sender_of}
use Rattle.book_store.proofs.store.BookStore.accept_heard.Goals as goal

pub returns-in_err-rows-clause-accepted : goal.returns-in_err-rows-clause-accepted
returns-in_err-rows-clause-accepted g c L was clean own s is =
    let failed = err_from_is_err_and c.from_residual.result c.from_residual.ensures.1 in
    failed_by g.S.Store g.D.Desk.Stands c.args.self.now c.args.self.now L _ failed.0 failed.1 _ (λ trees may. may) was

pub returns-in-Ok-clause-accepted : goal.returns-in-Ok-clause-accepted
returns-in-Ok-clause-accepted g c L was clean own s is =
    let old = c.args.self.now in
    let told = c.args.told.now in
    let change = c.args.change in
    let answer = c.in-Ok.answer in
    let rows = c.as_slice.result.now in
    let are = subst (λ (rows : List BookRow). AreRowsOf (place_in L) (accepted told (tape_of L.kept.history) change)
    (sender_of change.stamped) rows) (sym c.as_slice.ensures.value) (c.in_ok-rows.ensures L was) in
    let first = first_as L.kept s change is.is is.first in
    let ends = c.in-Ok.ensures.accepted L was clean own first in
    let same = c.accepted_told.ensures _ _ ends.ok.1.answer ∙ ap Ok (sym (ap (command_told s) ends.ok.1.answer)) in
    ends_same g.S.Store g.D.Desk.Stands old _ L c.accepted_told.result _ same _
    (ends_by g.S.Store g.D.Desk.Stands old _ L (command_told s) answer _ (AnswersSaid L told (Ok (Asked s)))
    (λ x M it. heard_accepted L told s change old.reading rows x M is was.read are it) ends)

pub returns-clause-accepted : goal.returns-clause-accepted
returns-clause-accepted g c L was clean own s is =
    let old = c.args.self.now in
    let told = c.args.told.now in
    let change = c.args.change in
    let rows = c.as_slice.result.now in
    let are = subst (λ (rows : List BookRow). AreRowsOf (place_in L) (accepted told (tape_of L.kept.history) change)
    (sender_of change.stamped) rows) (sym c.as_slice.ensures.value) (c.in_ok-rows.ensures L was) in
    let first = first_as L.kept s change is.is is.first in
    ends_err g.S.Store g.D.Desk.Stands old _ L _ _ _ (AnswersSaid L told (Ok (Asked s)))
    (λ x M it. (command_told s x, heard_accepted L told s change old.reading rows x M is was.read are it))
    (c.in-Err.ensures.accepted L was clean own first)

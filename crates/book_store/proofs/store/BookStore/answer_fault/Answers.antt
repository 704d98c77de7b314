use Rattle.desk_types.proofs.Common.{Err, err_from_is_err_and, refl}
use Rattle.book_store.proofs.Answering.{fault_kept}
use Rattle.book_store.proofs.Ending.{ends_err, ends_ok, ends_told, failed_by}
use Rattle.book_store.proofs.Entering.{fault_next}
use Rattle.book_store.specs.Answered.{AnswersSaid, fault_told}
use Rattle.book_store.proofs.store.BookStore.answer_fault.Goals as goal

pub returns-in_err-entry-clause-answered : goal.returns-in_err-entry-clause-answered
returns-in_err-entry-clause-answered g c L was clean own =
    let failed = err_from_is_err_and c.from_residual.result c.from_residual.ensures.1 in
    failed_by g.S.Store g.D.Desk.Stands c.args.self.now c.args.self.now L _ failed.0 failed.1 _ (λ trees may. may) was

pub returns-in_err-text-clause-answered : goal.returns-in_err-text-clause-answered
returns-in_err-text-clause-answered g c L was clean own =
    let failed = err_from_is_err_and c.from_residual-in_err-text.result c.from_residual-in_err-text.ensures.1 in
    failed_by g.S.Store g.D.Desk.Stands c.args.self.now c.args.self.now L _ failed.0 failed.1 _ (λ trees may. may) was

pub returns-in_err-keep-clause-answered : goal.returns-in_err-keep-clause-answered
returns-in_err-keep-clause-answered g c L was clean own =
    let fault = c.args.fault.now in
    let told = c.args.told.now in
    let is = c.in_ok-entry.ensures L was in
    let next = fault_next L told fault c.in_ok-entry.entry is in
    let failed = err_from_is_err_and c.from_residual-in_err-keep.result c.from_residual-in_err-keep.ensures.1 in
    ends_told g.S.Store g.D.Desk.Stands c.args.self.now _ L _ failed.0 failed.1 _
    (ends_err g.S.Store g.D.Desk.Stands c.args.self.now _ L _ failed.0 _ (AnswersSaid L told (Err fault))
    (λ x M keeps. (fault_told fault, fault_kept L told fault c.in_ok-entry.entry (fault_told fault) M is refl keeps))
    (c.in_err-keep.ensures.kept L was clean own next))

pub returns-clause-answered : goal.returns-clause-answered
returns-clause-answered g c L was clean own =
    let fault = c.args.fault.now in
    let told = c.args.told.now in
    let is = c.in_ok-entry.ensures L was in
    let next = fault_next L told fault c.in_ok-entry.entry is in
    ends_ok g.S.Store g.D.Desk.Stands c.args.self.now _ L _ _ _ (AnswersSaid L told (Err fault))
    (λ x M keeps. fault_kept L told fault c.in_ok-entry.entry c.in_ok-text.text M is c.in_ok-text.ensures keeps)
    (c.in_ok-keep.ensures.kept L was clean own next)

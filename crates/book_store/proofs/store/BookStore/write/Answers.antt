use Rattle.desk_types.proofs.Common.{err_from_is_err_and}
use Rattle.book_store.proofs.Ending.{ends_err, ends_ok, failed_by}
use Rattle.book_store.proofs.Noting.{adds_entry}
use Rattle.book_store.specs.Noted.{AddsEntry}
use Rattle.book_store.proofs.store.BookStore.write.Goals as goal

pub returns-in_err-row-clause-written : goal.returns-in_err-row-clause-written
returns-in_err-row-clause-written g c L was clean own next =
    let failed = err_from_is_err_and c.from_residual.result c.from_residual.ensures.1 in
    failed_by g.S.Store g.D.Desk.Stands c.args.self.now c.args.self.now L _ failed.0 failed.1 _ (λ trees may. may) was

pub returns-in-Ok-clause-written : goal.returns-in-Ok-clause-written
returns-in-Ok-clause-written g c L was clean own next =
    let adds = adds_entry L c.args.self.now.reading was.read c.args.told.now c.args.note.now next c.args.sender.now
    c.in_ok-row.row c.in_ok-row.ensures.row c.in_ok-row.ensures.back in
    ends_ok g.S.Store g.D.Desk.Stands c.args.self.now _ L _ _ _
    (λ _. AddsEntry L c.args.note.now c.args.sender.now c.args.told.now) (λ x M it. adds M it.0 it.1 it.2)
    (c.in-Ok.ensures.noted L was clean own)

pub returns-clause-written : goal.returns-clause-written
returns-clause-written g c L was clean own next =
    let adds = adds_entry L c.args.self.now.reading was.read c.args.told.now c.args.note.now next c.args.sender.now
    c.in_ok-row.row c.in_ok-row.ensures.row c.in_ok-row.ensures.back in
    ends_err g.S.Store g.D.Desk.Stands c.args.self.now _ L _ _ _
    (λ _. AddsEntry L c.args.note.now c.args.sender.now c.args.told.now) (λ x M it. (tt, adds M it.0 it.1 it.2))
    (c.in-Err.ensures.noted L was clean own)

use Rattle.desk_types.proofs.Common.{◌∙◌, sym}
use Rattle.line_book.specs.Guard.{IsGuard}
use Rattle.book_store.proofs.Ending.{ends_as, ends_failed, ends_still}
use Rattle.book_store.proofs.Loading.{some_there}
use Rattle.book_store.proofs.Noting.{known_keeps, new_keeps, none_keeps, some_keeps}
use Rattle.book_store.specs.Noted.{IsNextEntry, KeepsAny}
use Rattle.book_store.proofs.store.BookStore.keep.Goals as goal

pub returns-in_default-clause-kept : goal.returns-in_default-clause-kept
returns-in_default-clause-kept g c L was clean own next =
    ends_still g.S.Store g.D.Desk.Stands c.args.self.now c.args.self.now L _ _ (λ trees may. may) was
    (none_keeps L c.args.entry.now c.args.sender.now c.args.told.now c.in_default.is)

pub returns-in_default-guard-clause-kept : goal.returns-in_default-guard-clause-kept
returns-in_default-guard-clause-kept g c L was clean own next = ends_failed g.S.Store g.D.Desk.Stands c.args.self.now
    c.args.self.now L _ _ (λ trees may. may) was

pub returns-then-is_known-clause-kept : goal.returns-then-is_known-clause-kept
returns-then-is_known-clause-kept g c L was clean own next =
    let guard = some_there c.args.self.now.guard c.in-Some-guard.guard (IsGuard L.kept.history L.notes)
    c.in-Some-guard.is was.guard in
    let n = c.in-Some.note in
    ends_still g.S.Store g.D.Desk.Stands c.args.self.now c.args.self.now L _ _ (λ trees may. may) was
    (some_keeps L n c.args.sender.now c.args.told.now c.args.entry.now L c.in-Some.is
    (known_keeps L n c.args.sender.now c.args.told.now
    (sym (c.is_known.ensures L.kept.history L.notes guard) ∙ c.if-is_known.true)))

pub returns-clause-kept : goal.returns-clause-kept
returns-clause-kept g c L was clean own next =
    let guard = some_there c.args.self.now.guard c.in-Some-guard.guard (IsGuard L.kept.history L.notes)
    c.in-Some-guard.is was.guard in
    let n = c.in-Some.note in
    let unknown = sym (c.is_known.ensures L.kept.history L.notes guard) ∙ c.if-is_known.false in
    ends_as g.S.Store g.D.Desk.Stands c.args.self.now _ L c.write.result _
    (λ _. KeepsAny L c.args.entry.now c.args.sender.now c.args.told.now)
    (λ x M adds. some_keeps L n c.args.sender.now c.args.told.now c.args.entry.now M c.in-Some.is
    (new_keeps L n c.args.sender.now c.args.told.now M unknown adds))
    (c.write.ensures.written L was clean own
    (some_there c.args.entry.now n (IsNextEntry L c.args.told.now) c.in-Some.is next))

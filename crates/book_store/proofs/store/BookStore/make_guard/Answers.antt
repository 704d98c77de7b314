use Rattle.book_store.proofs.Guarding.{lists_guarded}
use Rattle.book_store.proofs.Loading.{lists_read}
use Rattle.book_store.proofs.store.BookStore.make_guard.Goals as goal

pub returns-in_err-guard-clause-stands : goal.returns-in_err-guard-clause-stands
returns-in_err-guard-clause-stands g c =
    lists_read g.S.Store g.D.Desk.Stands c.args.self.now c.guard_of.new.store c.guard_of.ensures.reads

pub returns-clause-stands : goal.returns-clause-stands
returns-clause-stands g c =
    lists_guarded g.S.Store g.D.Desk.Stands c.args.self.now c.guard_of.new.store c.in_ok-guard.guard
    c.guard_of.ensures.reads c.in_ok-guard.ensures.ok

use Rattle.desk_types.proofs.Common.{basis}
use Rattle.desk_laws.proofs.Common.{Two}
use Rattle.line_book.specs.Guard.{IsGuard}
use Rattle.book_store.proofs.Loading.{some_there}
use Rattle.book_store.proofs.store.BookStore.causes.Goals as goal

pub returns-clause-all : goal.returns-clause-all
returns-clause-all g c L was clean own =
    let lists = c.ready.ensures.stands L was clean own in
    c.in_ok-causes.ensures.all (basis Two L.kept.history) L.notes (c.in-Some.ensures.stands L.kept lists.both.stands)
    (some_there c.ready.new.self.guard c.in-Some-guard.guard (IsGuard L.kept.history L.notes) c.in-Some-guard.is
    lists.guard)

pub returns-clause-exact : goal.returns-clause-exact
returns-clause-exact g c L was clean own =
    let lists = c.ready.ensures.stands L was clean own in
    c.in_ok-causes.ensures.exact (basis Two L.kept.history) L.notes (c.in-Some.ensures.stands L.kept lists.both.stands)
    (some_there c.ready.new.self.guard c.in-Some-guard.guard (IsGuard L.kept.history L.notes) c.in-Some-guard.is
    lists.guard)
